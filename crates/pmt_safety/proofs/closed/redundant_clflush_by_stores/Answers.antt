use Rattle.pmt_safety.proofs.RedundantLemmas.{redundant_clflush_by_stores}
use Rattle.pmt_safety.proofs.closed.redundant_clflush_by_stores.Goals as goal

pub returns : goal.returns
returns c = redundant_clflush_by_stores
