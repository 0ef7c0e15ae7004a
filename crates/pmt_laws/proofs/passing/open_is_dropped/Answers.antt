use Rattle.pmt_laws.proofs.DecidedLemmas.{open_is_dropped}
use Rattle.pmt_laws.proofs.passing.open_is_dropped.Goals as goal

pub returns : goal.returns
returns c = open_is_dropped
