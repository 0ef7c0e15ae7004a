use Rattle.pmt_parts.proofs.Prelude.{ℕ, ◌≤◌, ◌<◌, HasByte}
use Rattle.pmt_parts.proofs.aside.has_all.Given as goal

abbrev pub invariant-loop-byte : goal.invariant-loop-byte
invariant-loop-byte l = (b : ℕ) → l.fn.range.addr ≤ b → b < l.byte-counter → HasByte l.written.keys b
