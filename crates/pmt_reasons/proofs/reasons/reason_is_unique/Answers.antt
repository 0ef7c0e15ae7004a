use Rattle.pmt_reasons.proofs.ReasonLemmas.{reason_is_unique}
use Rattle.pmt_reasons.proofs.reasons.reason_is_unique.Goals as goal

pub returns : goal.returns
returns c = reason_is_unique
