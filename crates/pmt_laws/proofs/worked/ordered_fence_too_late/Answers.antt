use Rattle.pmt_laws.proofs.WorkedLemmas.{ordered_fence_too_late_says}
use Rattle.pmt_laws.proofs.worked.ordered_fence_too_late.Goals as goal

pub returns : goal.returns
returns c = ordered_fence_too_late_says
