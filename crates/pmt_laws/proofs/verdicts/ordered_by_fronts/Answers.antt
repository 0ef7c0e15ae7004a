use Rattle.pmt_laws.proofs.AssertLemmas.{ordered_by_fronts}
use Rattle.pmt_laws.proofs.verdicts.ordered_by_fronts.Goals as goal

pub returns : goal.returns
returns c = ordered_by_fronts
