use Rattle.pmt_parts.proofs.PartsCarryLemmas.{part_carries_at}
use Rattle.pmt_parts.proofs.laws.part_carries_at.Goals as goal

pub returns : goal.returns
returns c = part_carries_at
