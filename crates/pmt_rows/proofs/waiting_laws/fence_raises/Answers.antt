use Rattle.pmt_rows.proofs.WaitingLemmas.{fence-raises}
use Rattle.pmt_rows.proofs.waiting_laws.fence_raises.Goals as goal

pub returns : goal.returns
returns c = fence-raises
