use Rattle.std.proofs.Common.{◌-◌}
use Rattle.pmt_explain.proofs.ReasonLemmas.{IsWalking}
use Rattle.pmt_explain.proofs.reasons.flushed_again.Given as goal

abbrev pub invariant-loop-flush : goal.invariant-loop-flush
invariant-loop-flush l = IsWalking l.trace l.thread l.line l.number l.flush

abbrev pub decreases-loop-flush : goal.decreases-loop-flush
decreases-loop-flush l = l.fence - l.flush
