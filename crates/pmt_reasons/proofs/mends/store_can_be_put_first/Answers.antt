use Rattle.pmt_reasons.proofs.PuttingInLaws.{store_can_be_put_first}
use Rattle.pmt_reasons.proofs.mends.store_can_be_put_first.Goals as goal

pub returns : goal.returns
returns c = store_can_be_put_first
