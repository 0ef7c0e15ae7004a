use Rattle.pmt_reasons.proofs.ReasonLaws.{overtaker_is_kept}
use Rattle.pmt_reasons.proofs.reasons.overtaker_is_kept.Goals as goal

pub returns : goal.returns
returns c = overtaker_is_kept
