use Rattle.pmt_laws.proofs.DecidedLemmas.{decided_stays}
use Rattle.pmt_laws.proofs.passing.decided_stays.Goals as goal

pub returns : goal.returns
returns c = decided_stays
