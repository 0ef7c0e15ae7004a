use Rattle.pmt_slices.proofs.Prelude.{arith, elements}
use Rattle.pmt_slices.proofs.store_slicing.fate_of.Goals as goal

pub returns : goal.returns
returns c = grind arith

pub coming_after-requires-clause-order : goal.coming_after-requires-clause-order
coming_after-requires-clause-order c = grind (arith, elements)
