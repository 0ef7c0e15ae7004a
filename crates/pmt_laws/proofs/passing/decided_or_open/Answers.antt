use Rattle.pmt_laws.proofs.DecidedLemmas.{decided_or_open}
use Rattle.pmt_laws.proofs.passing.decided_or_open.Goals as goal

pub returns : goal.returns
returns c = decided_or_open
