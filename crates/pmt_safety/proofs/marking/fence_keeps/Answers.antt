use Rattle.pmt_safety.proofs.MarkingLemmas.{fence_keeps}
use Rattle.pmt_safety.proofs.marking.fence_keeps.Goals as goal

pub returns : goal.returns
returns c = fence_keeps
