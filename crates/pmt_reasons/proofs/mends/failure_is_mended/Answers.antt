use Rattle.pmt_reasons.proofs.MendLaws.{failure_is_mended}
use Rattle.pmt_reasons.proofs.mends.failure_is_mended.Goals as goal

pub returns : goal.returns
returns c = failure_is_mended
