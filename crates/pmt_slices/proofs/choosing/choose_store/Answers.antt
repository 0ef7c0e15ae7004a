use Rattle.pmt_slices.proofs.Prelude.{arith, elements}
use Rattle.pmt_slices.proofs.choosing.choose_store.Goals as goal

pub returns-then-coming-chosen-2 : goal.returns-then-coming-chosen-2
returns-then-coming-chosen-2 c = grind arith

pub returns-else-coming : goal.returns-else-coming
returns-else-coming c = grind (arith, elements)
