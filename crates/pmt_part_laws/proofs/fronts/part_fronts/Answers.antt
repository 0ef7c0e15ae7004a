use Rattle.pmt_part_laws.proofs.FrontLemmas.{part_fronts}
use Rattle.pmt_part_laws.proofs.fronts.part_fronts.Goals as goal

pub returns : goal.returns
returns c = part_fronts
