use Rattle.pmt_parts.proofs.IgnoredLemmas.{part_of_all}
use Rattle.pmt_parts.proofs.laws.part_of_all.Goals as goal

pub returns : goal.returns
returns c = part_of_all
