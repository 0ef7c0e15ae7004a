use Rattle.pmt_image.proofs.Prelude.{ap, ◌∙◌, List, LineStores, with_counts}
use Rattle.pmt_image.proofs.crash.persisted_table.Goals as goal

pub returns : goal.returns
returns c = λ l. c.in_ok-table.ensures l ∙ ap (λ (xs : List LineStores). with_counts xs (λ _. 0) l) (c.as_slice.ensures.value ∙ c.in_ok-list.ensures)
