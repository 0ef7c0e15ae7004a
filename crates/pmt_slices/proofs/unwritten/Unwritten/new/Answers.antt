use Rattle.pmt_slices.proofs.Prelude.{arith, elements}
use Rattle.pmt_slices.proofs.unwritten.Unwritten.new.Goals as goal

pub returns : goal.returns
returns c = grind (arith, elements)
