use Rattle.pmt_laws.proofs.WorkedLemmas.{ordered_by_fence_says}
use Rattle.pmt_laws.proofs.worked.ordered_by_fence.Goals as goal

pub returns : goal.returns
returns c = ordered_by_fence_says
