use Rattle.pmt_parts.proofs.Prelude.{rules, ◌≡◌, ◌-◌, ◌<◌, suc, length, ap, subst, ◌∙◌, arith, IsLater, AreCarried}
use Rattle.pmt_explain.proofs.FollowingLemmas.{event-at}
use Rattle.pmt_parts.proofs.CarryLemmas.{marks-more, length-set-same}
use Rattle.pmt_parts.proofs.carrying.carried_flags.Goals as goal

pub loop-index-init : goal.loop-index-init
loop-index-init c =
    let size : length c.in_ok-carried.carried.items ≡ c.args.last = search rules in
    record { size = size; later = c.new-later.ensures c.args.trace.now c.args.last; marks = λ k after by. absurd (omega (arith, after, by)) }

pub loop-index-preserved : goal.loop-index-preserved
loop-index-preserved c =
    let T = c.args.trace.now in
    let n = c.args.last in
    let i = c.loop-index.index - 1 in
    let marked = c.loop-index.carried.items in
    let place : c.loop-index.index ≡ suc i = omega arith in
    let before : i < n = omega arith in
    let inside : i < length c.events-events.result.now = omega (arith, before, c.requires.within, ap (λ xs. length xs) c.events-events.ensures.value) in
    let is = event-at T c.format-format.result c.events-events.result.now i c.index-events-index.result c.format-format.ensures.value c.events-events.ensures.value inside c.index-events-index.is in
    let met = c.in_ok-is_carried.ensures T i n is (omega (arith, before)) (subst (λ m. IsLater T m n c.loop-index.later) place c.loop-index.invariant.later) in
    record {
      size = length-set-same marked i c.in_ok-is_carried.is_carried ∙ c.loop-index.invariant.size;
      later = met.0;
      marks = marks-more T i n marked c.in_ok-is_carried.is_carried c.loop-index.invariant.size before met.1 (subst (λ m. AreCarried T m n marked) place c.loop-index.invariant.marks);
    }

pub returns-clause-marks : goal.returns-clause-marks
returns-clause-marks c =
    let start : c.loop-index.index ≡ 0 = omega arith in
    subst (λ m. AreCarried c.args.trace.now m c.args.last c.loop-index.carried.items) start c.loop-index.invariant.marks
