use Rattle.pmt_reasons.proofs.FailureLaws.{persist_failure_fails}
use Rattle.pmt_reasons.proofs.failures.persist_failure_fails.Goals as goal

pub returns : goal.returns
returns c = persist_failure_fails
