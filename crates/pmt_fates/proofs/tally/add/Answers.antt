use Rattle.pmt_fates.proofs.Prelude.{arith, elements}
use Rattle.pmt_fates.proofs.tally.add.Goals as goal

pub returns-in-IdleFlush : goal.returns-in-IdleFlush
returns-in-IdleFlush c = grind (arith, elements)
