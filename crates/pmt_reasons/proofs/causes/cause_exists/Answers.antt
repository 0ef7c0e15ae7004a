use Rattle.pmt_reasons.proofs.CauseLaws.{cause_exists}
use Rattle.pmt_reasons.proofs.causes.cause_exists.Goals as goal

pub returns : goal.returns
returns c = cause_exists
