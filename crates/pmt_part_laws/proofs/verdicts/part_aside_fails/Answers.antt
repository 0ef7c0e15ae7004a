use Rattle.pmt_part_laws.proofs.PersistLemmas.{part_aside_fails}
use Rattle.pmt_part_laws.proofs.verdicts.part_aside_fails.Goals as goal

pub returns : goal.returns
returns c = part_aside_fails
