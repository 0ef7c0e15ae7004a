use Rattle.pmt_fates.proofs.Prelude.{place_items, row_place, saved_by}
use Rattle.pmt_fates.proofs.RowLemmas.{AreSoFar}
use Rattle.pmt_fates.proofs.rows.rows_of.Given as goal

abbrev pub invariant-loop-index : goal.invariant-loop-index
invariant-loop-index l = AreSoFar l.fates (saved_by l.safe l.savings) (place_items l.trace l.labels l.index) l.rows.items (row_place l.places)
