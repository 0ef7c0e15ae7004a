use Rattle.pmt_safety.proofs.MarkingLemmas.{fence_raises_to}
use Rattle.pmt_safety.proofs.marking.fence_raises_to.Goals as goal

pub returns : goal.returns
returns c = fence_raises_to
