use Rattle.pmt_laws.proofs.AssertLemmas.{persist_by_fronts}
use Rattle.pmt_laws.proofs.verdicts.persist_by_fronts.Goals as goal

pub returns : goal.returns
returns c = persist_by_fronts
