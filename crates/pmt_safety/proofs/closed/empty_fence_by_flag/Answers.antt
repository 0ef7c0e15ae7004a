use Rattle.pmt_safety.proofs.KeptLemmas.{empty_fence_by_flag}
use Rattle.pmt_safety.proofs.closed.empty_fence_by_flag.Goals as goal

pub returns : goal.returns
returns c = empty_fence_by_flag
