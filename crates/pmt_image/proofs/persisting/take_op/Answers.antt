use Rattle.pmt_image.proofs.Prelude.{arith, elements}
use Rattle.pmt_image.proofs.persisting.take_op.Goals as goal

pub returns-in-Some-clause-fault : goal.returns-in-Some-clause-fault
returns-in-Some-clause-fault c = grind (arith, elements)

pub returns-in_ok-take_store-in-Store-clause-found : goal.returns-in_ok-take_store-in-Store-clause-found
returns-in_ok-take_store-in-Store-clause-found c = grind (arith, elements)
