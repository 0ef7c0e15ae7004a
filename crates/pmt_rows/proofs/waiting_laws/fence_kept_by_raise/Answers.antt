use Rattle.pmt_rows.proofs.KeepingLemmas.{fence_kept_by_raise}
use Rattle.pmt_rows.proofs.waiting_laws.fence_kept_by_raise.Goals as goal

pub returns : goal.returns
returns c = fence_kept_by_raise
