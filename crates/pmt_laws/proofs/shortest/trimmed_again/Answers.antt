use Rattle.pmt_laws.proofs.shortest.trimmed_again.Goals as goal
use Rattle.pmt_laws.proofs.TrimmedTwice.{trimmed_twice}

pub returns : goal.returns
returns c = trimmed_twice
