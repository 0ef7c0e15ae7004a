use Rattle.pmt_reasons.proofs.CauseLemmas.{pending_by_fronts}
use Rattle.pmt_reasons.proofs.causes.pending_by_fronts.Goals as goal

pub returns : goal.returns
returns c = pending_by_fronts
