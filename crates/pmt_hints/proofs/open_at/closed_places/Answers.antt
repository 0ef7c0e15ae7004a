use Rattle.std.proofs.Common.{◌≡◌, ℕ, Bool, get_or, take, sym, ap, ◌∙◌, arith}
use Rattle.std.specs.Prelude.{◌||◌}
use Rattle.pmt_laws.specs.Prelude.{list_any, event}
use Rattle.std.proofs.lemmas.List.{take_all}
use Rattle.std.proofs.lemmas.List.Folds.{list_any_more}
use Rattle.pmt_hints.specs.Contrasts.{has_place, is_place, place_of}
use Rattle.pmt_hints.proofs.TellingLemmas.{closed-more}
use Rattle.pmt_hints.proofs.open_at.closed_places.Goals as goal

pub loop-number-init : goal.loop-number-init
loop-number-init c = c.in_ok-closed.ensures

pub loop-number-preserved : goal.loop-number-preserved
loop-number-preserved c = λ p.
    let T = c.args.trace.now in
    let i = c.loop-number.number-index in
    let numbers = c.args.numbers.now in
    let f : ℕ → Bool = λ j. is_place p (place_of c.args.labels.now j (event T j)) in
    let step : has_place c.add.new.self p ≡ (has_place c.loop-number.closed p || f (get_or numbers i 0)) = c.in_ok-add.ensures p ∙ ap (λ o. has_place c.loop-number.closed p || is_place p o) c.flush_place.ensures in
    closed-more (has_place c.add.new.self p) (has_place c.loop-number.closed p) (f (get_or numbers i 0)) (list_any f (take i numbers)) step (c.loop-number.invariant p)
    ∙ sym (list_any_more f numbers i 0 c.loop-number-test.true)

pub returns : goal.returns
returns c = λ p. c.loop-number.invariant p ∙ ap (list_any (λ (j : ℕ). is_place p (place_of c.args.labels.now j (event c.args.trace.now j)))) (take_all c.loop-number.number-index c.args.numbers.now (omega arith))
