use Rattle.pmt_safety.proofs.KeptLemmas.{kept_clflush_by_stores}
use Rattle.pmt_safety.proofs.closed.kept_clflush_by_stores.Goals as goal

pub returns : goal.returns
returns c = kept_clflush_by_stores
