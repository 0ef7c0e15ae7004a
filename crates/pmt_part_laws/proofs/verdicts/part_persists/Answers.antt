use Rattle.pmt_part_laws.proofs.PersistLemmas.{part_persists}
use Rattle.pmt_part_laws.proofs.verdicts.part_persists.Goals as goal

pub returns : goal.returns
returns c = part_persists
