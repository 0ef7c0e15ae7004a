use Rattle.pmt_page.proofs.Prelude.{◌≡◌, ◌++◌, drop, flat_map, separated_byte}
use Rattle.pmt_page.proofs.explained.push_separated.Given as goal

abbrev pub invariant-loop-byte : goal.invariant-loop-byte
invariant-loop-byte l = l.text.items ++ flat_map separated_byte (drop l.byte-index l.lines) ≡ l.initial.text.items ++ flat_map separated_byte l.lines
