use Rattle.pmt_laws.proofs.PassLemmas.{fence_is_kept}
use Rattle.pmt_laws.proofs.passing.fence_is_kept.Goals as goal

pub returns : goal.returns
returns c = fence_is_kept
