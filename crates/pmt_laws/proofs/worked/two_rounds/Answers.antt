use Rattle.pmt_laws.proofs.WorkedLemmas.{two_rounds_says}
use Rattle.pmt_laws.proofs.worked.two_rounds.Goals as goal

pub returns : goal.returns
returns c = two_rounds_says
