use Rattle.pmt_reasons.proofs.FailureLaws.{ordered_failure_fails}
use Rattle.pmt_reasons.proofs.failures.ordered_failure_fails.Goals as goal

pub returns : goal.returns
returns c = ordered_failure_fails
