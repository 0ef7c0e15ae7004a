use Rattle.std.proofs.Common.{◌≡◌, ℕ, ◌*◌, ◌<◌, ◌≤◌, false}
use Rattle.pmt_failures.specs.Showing.{has_byte}
use Rattle.pmt_failures.proofs.written.WrittenBytes.has_any.Given as goal

abbrev pub invariant-loop-number : goal.invariant-loop-number
invariant-loop-number l = (b : ℕ) → l.first ≤ b → b < l.end → b < l.number * 64 → has_byte l.self b ≡ false
