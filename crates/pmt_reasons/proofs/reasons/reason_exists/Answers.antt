use Rattle.pmt_reasons.proofs.ReasonLaws.{reason_exists}
use Rattle.pmt_reasons.proofs.reasons.reason_exists.Goals as goal

pub returns : goal.returns
returns c = reason_exists
