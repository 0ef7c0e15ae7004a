use Rattle.pmt_safety.proofs.RedundantLemmas.{never_persisted_by_stores}
use Rattle.pmt_safety.proofs.closed.never_persisted_by_stores.Goals as goal

pub returns : goal.returns
returns c = never_persisted_by_stores
