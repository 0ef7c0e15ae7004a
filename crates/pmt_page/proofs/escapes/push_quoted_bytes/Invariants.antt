use Rattle.pmt_page.proofs.Prelude.{◌≡◌, ◌++◌, drop, flat_map, quoted_byte}
use Rattle.pmt_page.proofs.escapes.push_quoted_bytes.Given as goal

abbrev pub invariant-loop-byte : goal.invariant-loop-byte
invariant-loop-byte l = l.text.items ++ flat_map quoted_byte (drop l.byte-index l.words) ≡ l.initial.text.items ++ flat_map quoted_byte l.words
