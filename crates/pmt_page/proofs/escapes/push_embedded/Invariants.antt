use Rattle.pmt_page.proofs.Prelude.{◌≡◌, ◌++◌, drop, flat_map, embedded_byte}
use Rattle.pmt_page.proofs.escapes.push_embedded.Given as goal

abbrev pub invariant-loop-byte : goal.invariant-loop-byte
invariant-loop-byte l = l.text.items ++ flat_map embedded_byte (drop l.byte-index l.json) ≡ l.initial.text.items ++ flat_map embedded_byte l.json
