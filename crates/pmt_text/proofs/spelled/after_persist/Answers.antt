-- The thread and a span stand after the word.
use Rattle.std.proofs.Common.{ℕ, List, [], ◌∷◌, refl, ap, ◌∙◌}
use Rattle.pmt_text.specs.Spelling.{address, numeral}
use Rattle.pmt_text.proofs.AfterLemmas.{spaced-span, thread-spaced}
use Rattle.pmt_text.proofs.spelled.after_persist.Goals as goal

pub returns-in-Ok : goal.returns-in-Ok
returns-in-Ok c =
    let rest : List ℕ = c.in_ok-text.text.now in
    let a = c.in_ok-addr.addr in
    let n = c.in_ok-addr.len in
    let span = c.in_ok-take_space.ensures ∙ ap (λ (xs : List ℕ). 32 ∷ xs) c.in_ok-addr.ensures ∙ spaced-span a n [] c.in_ok-addr.text.now (10 ∷ rest) c.in_ok-text.ensures in
    rw c.in-Ok.ensures (refl, thread-spaced c.in_ok-thread.thread (address a ∷ numeral 10 n ∷ []) c.args.text.now c.in_ok-thread.text.now rest c.in_ok-thread.ensures span)
