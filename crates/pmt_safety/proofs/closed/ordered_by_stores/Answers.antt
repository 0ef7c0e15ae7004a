use Rattle.pmt_safety.proofs.VerdictLemmas.{ordered_by_stores}
use Rattle.pmt_safety.proofs.closed.ordered_by_stores.Goals as goal

pub returns : goal.returns
returns c = ordered_by_stores
