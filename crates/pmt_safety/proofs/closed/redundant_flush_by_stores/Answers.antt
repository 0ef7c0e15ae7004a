use Rattle.pmt_safety.proofs.RedundantLemmas.{redundant_flush_by_stores}
use Rattle.pmt_safety.proofs.closed.redundant_flush_by_stores.Goals as goal

pub returns : goal.returns
returns c = redundant_flush_by_stores
