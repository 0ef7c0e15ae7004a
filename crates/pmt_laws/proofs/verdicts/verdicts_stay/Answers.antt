use Rattle.pmt_laws.proofs.StayLemmas.{verdicts_stay}
use Rattle.pmt_laws.proofs.verdicts.verdicts_stay.Goals as goal

pub returns : goal.returns
returns c = verdicts_stay
