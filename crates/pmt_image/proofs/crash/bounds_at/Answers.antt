use Rattle.pmt_image.proofs.Prelude.{ap, ◌∙◌, List, map, LineCount, with_counts, persisted_entry, stored_entry}
use Rattle.pmt_image.proofs.CountLemmas.{least-told, greatest-told}
use Rattle.pmt_image.proofs.crash.bounds_at.Goals as goal

pub returns-clause-least : goal.returns-clause-least
returns-clause-least c = λ l.
    c.in_ok-least.ensures l ∙ ap (λ (xs : List LineCount). with_counts (map persisted_entry xs) (λ _. 0) l) c.as_slice.ensures.value
    ∙ least-told c.args.trace.now c.args.place l c.in_ok-lines.lines.items c.in_ok-lines.ensures

pub returns-clause-greatest : goal.returns-clause-greatest
returns-clause-greatest c = λ l.
    c.in_ok-greatest.ensures l ∙ ap (λ (xs : List LineCount). with_counts (map stored_entry xs) (λ _. 0) l) c.as_slice-2.ensures.value
    ∙ greatest-told c.args.trace.now c.args.place l c.in_ok-lines.lines.items c.in_ok-lines.ensures
