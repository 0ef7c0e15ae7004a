use Rattle.pmt_laws.proofs.shortest.keep_is_shortest.Goals as goal
use Rattle.pmt_laws.proofs.ShortestLemmas.{keep_shortest}

pub returns : goal.returns
returns c = keep_shortest
