use Rattle.pmt_laws.proofs.PassLemmas.{fence_raises}
use Rattle.pmt_laws.proofs.passing.fence_raises.Goals as goal

pub returns : goal.returns
returns c = fence_raises
