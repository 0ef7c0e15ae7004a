use Rattle.pmt_part_laws.proofs.MakingLemmas.{part_is_made}
use Rattle.pmt_part_laws.proofs.keeping.part_is_made.Goals as goal

pub returns : goal.returns
returns c = part_is_made
