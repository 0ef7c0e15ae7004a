use Rattle.pmt_laws.proofs.PassLemmas.{fence_decides}
use Rattle.pmt_laws.proofs.passing.fence_decides.Goals as goal

pub returns : goal.returns
returns c = fence_decides
