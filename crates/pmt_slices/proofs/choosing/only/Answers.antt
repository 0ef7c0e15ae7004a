use Rattle.pmt_slices.proofs.Prelude.{arith, common_steps, elements}
use Rattle.pmt_slices.proofs.choosing.only.Goals as goal

pub returns-clause-size : goal.returns-clause-size
returns-clause-size c = grind (arith, elements)

pub returns-clause-just : goal.returns-clause-just
returns-clause-just c = grind (arith, common_steps)
