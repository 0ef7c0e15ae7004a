use Rattle.pmt_safety.proofs.VerdictLemmas.{persist_by_stores}
use Rattle.pmt_safety.proofs.closed.persist_by_stores.Goals as goal

pub returns : goal.returns
returns c = persist_by_stores
