-- The thread and two spans stand after the word.
use Rattle.std.proofs.Common.{ℕ, List, [], ◌∷◌, refl, ap, ◌∙◌}
use Rattle.pmt_text.specs.Spelling.{address, numeral}
use Rattle.pmt_text.proofs.AfterLemmas.{spaced-span, thread-spaced}
use Rattle.pmt_text.proofs.spelled.after_ordered.Goals as goal

pub returns-in-Ok : goal.returns-in-Ok
returns-in-Ok c =
    let rest : List ℕ = c.in_ok-text.text.now in
    let a = c.in_ok-addr.addr in
    let n = c.in_ok-addr.len in
    let b = c.in_ok-later_addr.later_addr in
    let m = c.in_ok-later_addr.later_len in
    let second = c.in_ok-take_space-2.ensures ∙ ap (λ (xs : List ℕ). 32 ∷ xs) c.in_ok-later_addr.ensures ∙ spaced-span b m [] c.in_ok-later_addr.text.now (10 ∷ rest) c.in_ok-text.ensures in
    let first = c.in_ok-take_space.ensures ∙ ap (λ (xs : List ℕ). 32 ∷ xs) c.in_ok-addr.ensures ∙ spaced-span a n (address b ∷ numeral 10 m ∷ []) c.in_ok-addr.text.now (10 ∷ rest) second in
    rw c.in-Ok.ensures (refl, thread-spaced c.in_ok-thread.thread (address a ∷ numeral 10 n ∷ address b ∷ numeral 10 m ∷ []) c.args.text.now c.in_ok-thread.text.now rest c.in_ok-thread.ensures first)
