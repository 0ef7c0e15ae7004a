use Rattle.pmt_reasons.proofs.MendLaws.{loss_is_mended}
use Rattle.pmt_reasons.proofs.mends.loss_is_mended.Goals as goal

pub returns : goal.returns
returns c = loss_is_mended
