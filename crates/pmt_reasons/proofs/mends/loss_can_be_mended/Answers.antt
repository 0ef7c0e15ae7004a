use Rattle.pmt_reasons.proofs.CanMendLaws.{loss_can_be_mended}
use Rattle.pmt_reasons.proofs.mends.loss_can_be_mended.Goals as goal

pub returns : goal.returns
returns c = loss_can_be_mended
