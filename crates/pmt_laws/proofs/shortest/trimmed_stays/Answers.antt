use Rattle.pmt_laws.proofs.shortest.trimmed_stays.Goals as goal
use Rattle.pmt_laws.proofs.WholeSelections.{trimmed_same}

pub returns : goal.returns
returns c = trimmed_same
