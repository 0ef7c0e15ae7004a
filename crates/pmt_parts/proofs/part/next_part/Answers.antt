use Rattle.pmt_parts.proofs.Prelude.{◌≡◌, ◌-◌, ◌≤◌, min, refl, subst, ap, ◌∙◌, arith, elements, matching_place, through, AreChosen}
use Rattle.pmt_parts.proofs.FollowLemmas.{next-is, chosen-within}
use Rattle.pmt_parts.proofs.part.next_part.Goals as goal

pub select-requires : goal.select-requires
select-requires c = chosen-within c.args.part.now.trace c.args.ranges.now _ c.in_ok-chosen.chosen c.in_ok-chosen.ensures.chosen

pub returns-clause-part : goal.returns-clause-part
returns-clause-part c T it =
    let p = c.args.part.now in
    let S = c.in_ok-chosen.chosen in
    let back = c.min-back.result in
    let least : back ≡ min c.args.overlap (p.end - p.place) = c.min-back.ensures ∙ ap (min c.args.overlap) c.saturating_sub.ensures in
    let from : p.place ≤ p.end - back = omega (arith, least, it.part.order) in
    let by : p.end - back ≤ p.end = omega arith in
    let own : c.place_in-own.result ≡ matching_place p.numbers.items (p.end - back) = c.place_in-own.ensures ∙ ap (λ ks. matching_place ks (p.end - back)) c.as_slice.ensures.value in
    let numbers : c.in_ok-numbers.numbers.items ≡ through p.numbers.items S =
    c.in_ok-numbers.ensures ∙ ap (λ ks. through ks c.numbers.result.now) c.as_slice-2.ensures.value ∙ ap (through p.numbers.items) c.numbers.ensures.value in
    next-is T c.args.ranges.now p _ S from by refl refl c.in_ok-chosen.ensures.rising (subst (λ m. AreChosen p.trace c.args.ranges.now m S) own c.in_ok-chosen.ensures.chosen) numbers c.in_ok-trace.ensures it

pub returns-clause-place : goal.returns-clause-place
returns-clause-place c = grind arith

pub returns-in_err-trace-clause-part : goal.returns-in_err-trace-clause-part
returns-in_err-trace-clause-part c = grind (arith, elements)

pub returns-in_err-trace-clause-end : goal.returns-in_err-trace-clause-end
returns-in_err-trace-clause-end c = grind (arith, elements)
