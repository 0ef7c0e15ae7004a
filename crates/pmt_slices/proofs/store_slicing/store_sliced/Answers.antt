use Rattle.pmt_slices.proofs.Prelude.{arith, elements}
use Rattle.pmt_slices.proofs.store_slicing.store_sliced.Goals as goal

pub slice_if_lost-requires : goal.slice_if_lost-requires
slice_if_lost-requires c = grind (arith, elements)

pub returns-in-Store : goal.returns-in-Store
returns-in-Store c = grind arith
