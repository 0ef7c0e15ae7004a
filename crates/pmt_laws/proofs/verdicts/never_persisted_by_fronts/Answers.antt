use Rattle.pmt_laws.proofs.NeverLemmas.{never_persisted_by_fronts}
use Rattle.pmt_laws.proofs.verdicts.never_persisted_by_fronts.Goals as goal

pub returns : goal.returns
returns c = never_persisted_by_fronts
