use Rattle.pmt_part_laws.proofs.KeepLemmas.{part_keeps}
use Rattle.pmt_part_laws.proofs.keeping.part_keeps.Goals as goal

pub returns : goal.returns
returns c = part_keeps
