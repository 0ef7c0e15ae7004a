use Rattle.std.proofs.Common.{◌≤◌}
use Rattle.pmt_failures.proofs.near.is_written_near.Given as goal

abbrev pub invariant-loop-index : goal.invariant-loop-index
invariant-loop-index l = l.index ≤ l.count
