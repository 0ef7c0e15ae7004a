use Rattle.pmt_safety.proofs.KeptLemmas.{kept_flush_by_stores}
use Rattle.pmt_safety.proofs.closed.kept_flush_by_stores.Goals as goal

pub returns : goal.returns
returns c = kept_flush_by_stores
