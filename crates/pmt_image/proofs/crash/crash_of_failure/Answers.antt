use Rattle.pmt_image.proofs.Prelude.{ap, ◌∙◌, List, map, arith, full_line, LineCount, count_in, with_counts, persisted_entry}
use Rattle.pmt_reasons.specs.Failures.{persisted_at}
use Rattle.pmt_image.proofs.CountLemmas.{box-may, failure-box, failure-told}
use Rattle.pmt_image.proofs.crash.crash_of_failure.Goals as goal

pub returns-clause-counts : goal.returns-clause-counts
returns-clause-counts c = λ l.
    let T = c.args.trace.now in
    let n = c.args.failure.now.place in
    c.in_ok-persisted.ensures l ∙ ap (λ (xs : List LineCount). with_counts (map persisted_entry xs) (λ _. 0) l) c.as_slice.ensures.value
    ∙ failure-told T n l (full_line T c.args.failure.now.kept) c.in_ok-lines.lines.items c.in_ok-lines.ensures

pub returns-clause-may : goal.returns-clause-may
returns-clause-may c =
    let T = c.args.trace.now in
    let n = c.args.failure.now.place in
    let full = full_line T c.args.failure.now.kept in
    box-may T n (λ l. persisted_at T n full l) (λ l. count_in c.in_ok-persisted.persisted l)
    (λ l. c.in_ok-persisted.ensures l ∙ ap (λ (xs : List LineCount). with_counts (map persisted_entry xs) (λ _. 0) l) c.as_slice.ensures.value ∙ failure-told T n l full c.in_ok-lines.lines.items c.in_ok-lines.ensures) (failure-box T n full)

pub returns-clause-place : goal.returns-clause-place
returns-clause-place c = grind arith
