use Rattle.pmt_slices.proofs.Prelude.{arith, elements}
use Rattle.pmt_slices.proofs.unwritten.take_bytes.Goals as goal

pub loop-place-preserved : goal.loop-place-preserved
loop-place-preserved c = grind (arith, elements)
