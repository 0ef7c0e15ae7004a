use Rattle.pmt_reasons.proofs.FailureLaws.{crash_is_moment}
use Rattle.pmt_reasons.proofs.failures.crash_is_moment.Goals as goal

pub returns : goal.returns
returns c = crash_is_moment
