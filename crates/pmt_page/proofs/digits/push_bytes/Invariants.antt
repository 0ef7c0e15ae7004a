use Rattle.pmt_page.proofs.Prelude.{◌≡◌, ◌++◌, drop, flat_map, hex_pair}
use Rattle.pmt_page.proofs.digits.push_bytes.Given as goal

abbrev pub invariant-loop-byte : goal.invariant-loop-byte
invariant-loop-byte l = l.text.items ++ flat_map hex_pair (drop l.byte-index l.bytes) ≡ l.initial.text.items ++ flat_map hex_pair l.bytes
