use Rattle.pmt_part_laws.proofs.BoxLemmas.{part_vectors}
use Rattle.pmt_part_laws.proofs.fronts.part_vectors.Goals as goal

pub returns : goal.returns
returns c = part_vectors
