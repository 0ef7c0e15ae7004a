use Rattle.pmt_reasons.proofs.PuttingInLaws.{flush_and_fence_can_be_put_in}
use Rattle.pmt_reasons.proofs.mends.flush_and_fence_can_be_put_in.Goals as goal

pub returns : goal.returns
returns c = flush_and_fence_can_be_put_in
