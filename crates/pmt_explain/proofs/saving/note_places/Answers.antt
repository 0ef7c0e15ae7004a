use Rattle.std.proofs.Common.{◌≡◌, ◌-◌, suc, ◌<◌, length, subst, sym, ap, ◌∙◌, arith}
use Rattle.std.proofs.lemmas.List.{length-set}
use Rattle.std.proofs.lemmas.Option.{slice_get_within}
use Rattle.pmt_explain.specs.Following.{IsAhead, TellsSafe}
use Rattle.pmt_explain.proofs.FollowingLemmas.{event-at, told-set}
use Rattle.pmt_explain.proofs.saving.note_places.Goals as goal

pub loop-index-init : goal.loop-index-init
loop-index-init c =
    let T = c.args.trace.now in
    let long : length c.events-events.result.now ≡ length T.events = ap (λ xs. length xs) c.events-events.ensures.value in
    record {
      size = c.requires.places;
      ahead = subst (λ n. IsAhead T n c.args.ahead.now) (sym long) c.requires.ahead;
      each = λ n p from is. absurd (omega (arith, slice_get_within c.args.places.now.items n p is, c.requires.places, long));
    }

pub loop-index-preserved : goal.loop-index-preserved
loop-index-preserved c =
    let T = c.args.trace.now in
    let i = c.loop-index.index - 1 in
    let before : c.loop-index.index ≡ suc (c.loop-index.index - 1) = omega arith in
    let within : c.loop-index.index - 1 < length c.events-events.result.now = omega arith in
    let inside : c.loop-index.index - 1 < length c.loop-index.places.items = omega (arith, c.loop-index.invariant.size, ap (λ xs. length xs) c.events-events.ensures.value) in
    let is = event-at T c.format-format.result c.events-events.result.now i c.index-events-index.result c.format-format.ensures.value c.events-events.ensures.value within c.index-events-index.is in
    let old = subst (λ k. IsAhead T k c.loop-index.ahead) before c.loop-index.invariant.ahead in
    let place = c.in_ok-place.place in
    record {
      size = length-set c.loop-index.places.items i place ∙ c.loop-index.invariant.size;
      ahead = c.in_ok-place.ensures.ahead T i is (omega arith) old;
      each = λ n p from at. told-set (TellsSafe T) c.loop-index.places.items i n place p inside (c.in_ok-place.ensures.safe T i is old) (λ m q later here. c.loop-index.invariant.each m q (omega arith) here) from at;
    }

pub returns : goal.returns
returns c = record { size = c.loop-index.invariant.size; each = λ n p is. c.loop-index.invariant.each n p (omega arith) is }
