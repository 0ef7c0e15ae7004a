use Rattle.pmt_slices.proofs.Prelude.{arith, elements}
use Rattle.pmt_slices.proofs.store_slicing.choose_fate.Goals as goal

pub returns-then-fate-2 : goal.returns-then-fate-2
returns-then-fate-2 c = grind (arith, elements)

pub returns-else-fate-2 : goal.returns-else-fate-2
returns-else-fate-2 c = grind (arith, elements)
