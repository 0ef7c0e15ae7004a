use Rattle.pmt_reasons.proofs.CauseLaws.{cause_is_unique}
use Rattle.pmt_reasons.proofs.causes.cause_is_unique.Goals as goal

pub returns : goal.returns
returns c = cause_is_unique
