use Rattle.pmt_reasons.proofs.PuttingInLaws.{fence_can_be_put_in}
use Rattle.pmt_reasons.proofs.mends.fence_can_be_put_in.Goals as goal

pub returns : goal.returns
returns c = fence_can_be_put_in
