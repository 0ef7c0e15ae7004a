use Rattle.std.proofs.Common.{◌≡◌, ◌≤◌, None}
use Rattle.pmt_asserts.specs.Puts.{puts_of, IsLeastOf}
use Rattle.pmt_asserts.proofs.table.LineTable.least.Given as goal

abbrev pub invariant-loop-byte : goal.invariant-loop-byte
invariant-loop-byte l = IsLeastOf (puts_of l.self.job.steps) l.count l.low l.byte l.least × (l.high ≤ l.low → l.least ≡ None)
