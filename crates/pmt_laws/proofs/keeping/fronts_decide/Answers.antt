use Rattle.pmt_laws.proofs.BoxLemmas.{vectors_are_a_box}
use Rattle.pmt_laws.proofs.FaithfulLemmas.{fronts_decide}
use Rattle.pmt_laws.proofs.keeping.fronts_decide.Goals as goal

pub returns : goal.returns
returns c = fronts_decide vectors_are_a_box
