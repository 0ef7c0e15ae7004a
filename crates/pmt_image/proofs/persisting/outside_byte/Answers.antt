use Rattle.pmt_image.proofs.Prelude.{arith, elements}
use Rattle.pmt_image.proofs.persisting.outside_byte.Goals as goal

pub returns-clause-none : goal.returns-clause-none
returns-clause-none c = grind (arith, elements)
