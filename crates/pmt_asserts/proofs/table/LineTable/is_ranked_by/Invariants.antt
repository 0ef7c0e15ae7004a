use Rattle.std.proofs.Common.{ℕ, ◌≤◌, ◌<◌}
use Rattle.pmt_asserts.specs.Puts.{puts_of, last_in}
use Rattle.pmt_asserts.proofs.table.LineTable.is_ranked_by.Given as goal

abbrev pub invariant-loop-byte : goal.invariant-loop-byte
invariant-loop-byte l = (b : ℕ) → l.low ≤ b → b < l.byte → last_in (puts_of l.self.job.steps) b l.count ≤ l.rank
