use Rattle.pmt_reasons.proofs.CanMendLaws.{failure_can_be_mended}
use Rattle.pmt_reasons.proofs.mends.failure_can_be_mended.Goals as goal

pub returns : goal.returns
returns c = failure_can_be_mended
