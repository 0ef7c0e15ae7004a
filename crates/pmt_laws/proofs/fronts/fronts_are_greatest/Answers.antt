use Rattle.pmt_laws.proofs.FrontLemmas.{fronts_are_greatest}
use Rattle.pmt_laws.proofs.fronts.fronts_are_greatest.Goals as goal

pub returns : goal.returns
returns c = fronts_are_greatest
