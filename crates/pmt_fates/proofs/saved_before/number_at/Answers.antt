use Rattle.pmt_fates.proofs.Prelude.{arith, elements}
use Rattle.pmt_fates.proofs.saved_before.number_at.Goals as goal

pub returns-in-Some : goal.returns-in-Some
returns-in-Some c = grind (arith, elements)

pub returns-in-None : goal.returns-in-None
returns-in-None c = grind (arith, elements)
