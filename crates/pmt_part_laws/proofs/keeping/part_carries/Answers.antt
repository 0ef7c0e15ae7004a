use Rattle.pmt_part_laws.proofs.CarryLemmas.{part_carries}
use Rattle.pmt_part_laws.proofs.keeping.part_carries.Goals as goal

pub returns : goal.returns
returns c = part_carries
