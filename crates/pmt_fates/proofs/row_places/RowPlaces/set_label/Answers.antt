use Rattle.pmt_fates.proofs.Prelude.{arith, elements}
use Rattle.pmt_fates.proofs.row_places.RowPlaces.set_label.Goals as goal

pub returns-then-label-len-clause-labels : goal.returns-then-label-len-clause-labels
returns-then-label-len-clause-labels c = grind (arith, elements)

pub returns-in_err-insert-clause-threads : goal.returns-in_err-insert-clause-threads
returns-in_err-insert-clause-threads c = grind (arith, elements)

pub returns-in_err-insert-clause-labels : goal.returns-in_err-insert-clause-labels
returns-in_err-insert-clause-labels c = grind (arith, elements)
