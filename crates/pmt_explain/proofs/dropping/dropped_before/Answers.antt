use Rattle.std.proofs.Common.{◌≡◌, ◌+◌, ◌-◌, suc, ◌<◌, length, refl, Some, subst, sym, ap, ◌∙◌, arith, get_or}
use Rattle.std.specs.Prelude.{slice_get}
use Rattle.std.proofs.lemmas.Option.{slice_get-get_or}
use Rattle.pmt_model.specs.Traces.{IsAct, act_of, event}
use Rattle.pmt_explain.specs.Following.{IsFenceAfter, IsFirst, past_of, TellsSafe, TellsNextFlush}
use Rattle.pmt_explain.proofs.FollowingLemmas.{event-at}
use Rattle.pmt_explain.specs.Dropping.{IsBehind, IsPast, TellsReason}
use Rattle.pmt_explain.proofs.DroppingLemmas.{dropped-start, dropped-next, dropped-all}
use Rattle.pmt_explain.proofs.ReasonLemmas.{past-start, number-at}
use Rattle.pmt_explain.proofs.dropping.dropped_before.Goals as goal

pub loop-index-init : goal.loop-index-init
loop-index-init c = record {
  behind = subst (λ U. IsBehind U 0 c.in_ok-behind.behind) c.trace-trace.ensures c.in_ok-behind.ensures;
  past = past-start c.args.kept.now c.requires.kept.rising;
  listed = dropped-start c.args.safe.now.trace.now _ c.new-list.ensures.items;
}

pub bounds-fences-index : goal.bounds-fences-index
bounds-fences-index c = omega (arith, c.requires.fences.size, ap (λ xs. length xs) c.events-events.ensures.value, ap (λ U. length U.events) c.trace-trace.ensures)

pub bounds-flushes-index : goal.bounds-flushes-index
bounds-flushes-index c = omega (arith, c.requires.flushes.size, ap (λ xs. length xs) c.events-events.ensures.value, ap (λ U. length U.events) c.trace-trace.ensures)

pub bounds-places-index : goal.bounds-places-index
bounds-places-index c = omega (arith, c.places-places.ensures.size, ap (λ xs. length xs) c.events-events.ensures.value, ap (λ U. length U.events) c.trace-trace.ensures)

pub reason-reason-requires-clause-kept : goal.reason-reason-requires-clause-kept
reason-reason-requires-clause-kept c =
    let i = c.loop-index.index in
    let next : c.loop-index.index + 1 ≡ suc c.loop-index.index = omega arith in
    let told = number-at c.args.kept.now i c.loop-index.place (i + 1) c.has_at-is_kept.result next c.has_at-is_kept.ensures c.loop-index.invariant.past in
    rw c.trace-trace.ensures (λ stands. (c.requires.kept.just (i + 1)).0 (told.there stands))

pub reason-reason-requires-clause-dropped : goal.reason-reason-requires-clause-dropped
reason-reason-requires-clause-dropped c =
    let i = c.loop-index.index in
    let next : c.loop-index.index + 1 ≡ suc c.loop-index.index = omega arith in
    let told = number-at c.args.kept.now i c.loop-index.place (i + 1) c.has_at-is_kept.result next c.has_at-is_kept.ensures c.loop-index.invariant.past in
    rw c.trace-trace.ensures (λ stands kept. told.missing stands ((c.requires.kept.just (i + 1)).1 kept))

pub reason-reason-requires-clause-behind : goal.reason-reason-requires-clause-behind
reason-reason-requires-clause-behind c =
    let same : c.loop-index.index ≡ c.loop-index.index + 1 - 1 = omega arith in
    rw c.trace-trace.ensures (subst (λ k. IsBehind c.args.safe.now.trace.now k c.loop-index.behind) same c.loop-index.invariant.behind)

pub reason-reason-requires-clause-flushes : goal.reason-reason-requires-clause-flushes
reason-reason-requires-clause-flushes c = rw c.trace-trace.ensures c.requires.flushes

pub reason-reason-requires-clause-fence : goal.reason-reason-requires-clause-fence
reason-reason-requires-clause-fence c =
    let T = c.args.safe.now.trace.now in
    let i = c.loop-index.index in
    let e = c.index-events-index.result in
    let es = c.events-events.result.now in
    let next : suc c.loop-index.index ≡ c.loop-index.index + 1 = omega arith in
    let within : c.loop-index.index < length c.events-events.result.now = omega (arith, c.loop-index-test.true) in
    let inside : c.loop-index.index < length c.args.fences.now = omega (arith, within, c.requires.fences.size, ap (λ xs. length xs) c.events-events.ensures.value, ap (λ U. length U.events) c.trace-trace.ensures) in
    let at : event T (suc i) ≡ Some e = ap (λ xs. slice_get xs i) (sym (c.events-events.ensures.value ∙ ap (λ U. U.events) c.trace-trace.ensures)) ∙ slice_get-get_or es i e within ∙ ap Some (sym c.index-events-index.is) in
    let f = get_or c.args.fences.now i 0 in
    let found : slice_get c.args.fences.now i ≡ Some f = slice_get-get_or c.args.fences.now i 0 inside in
    rw c.trace-trace.ensures (subst (λ k. IsFirst (IsFenceAfter T e.thread k) (past_of T) f) next (c.requires.fences.each i f e found at))

pub reason-reason-requires-clause-is : goal.reason-reason-requires-clause-is
reason-reason-requires-clause-is c =
    let T = c.args.safe.now.trace.now in
    let e = c.index-events-index.result in
    let next : c.loop-index.index + 1 ≡ suc c.loop-index.index = omega arith in
    let within : c.loop-index.index < length c.events-events.result.now = omega (arith, c.loop-index-test.true) in
    let is = event-at T T.format c.events-events.result.now c.loop-index.index e refl (c.events-events.ensures.value ∙ ap (λ U. U.events) c.trace-trace.ensures) within c.index-events-index.is in
    rw c.trace-trace.ensures (subst (λ k. IsAct T k (act_of T.format e.thread e.op)) (sym next) is)

pub loop-index-preserved : goal.loop-index-preserved
loop-index-preserved c =
    let T = c.args.safe.now.trace.now in
    let i = c.loop-index.index in
    let e = c.index-events-index.result in
    let next : c.loop-index.index + 1 ≡ suc c.loop-index.index = omega arith in
    let told = number-at c.args.kept.now i c.loop-index.place (i + 1) c.has_at-is_kept.result next c.has_at-is_kept.ensures c.loop-index.invariant.past in
    let within : c.loop-index.index < length c.events-events.result.now = omega (arith, c.loop-index-test.true) in
    let is = event-at T T.format c.events-events.result.now i e refl (c.events-events.ensures.value ∙ ap (λ U. U.events) c.trace-trace.ensures) within c.index-events-index.is in
    let many : length c.events-events.result.now ≡ length T.events = ap (λ xs. length xs) (c.events-events.ensures.value ∙ ap (λ U. U.events) c.trace-trace.ensures) in
    let flush = get_or c.args.flushes.now i 0 in
    let flush_in : c.loop-index.index < length c.args.flushes.now = omega (arith, within, many, c.requires.flushes.size) in
    let told_flush : TellsNextFlush T (suc i) flush = c.requires.flushes.each i flush (slice_get-get_or c.args.flushes.now i 0 flush_in) in
    let place = get_or c.places-places.result.now i 0 in
    let place_in : c.loop-index.index < length c.places-places.result.now = omega (arith, within, many, c.places-places.ensures.size) in
    let told_place : TellsSafe T (suc i) place = c.places-places.ensures.each i place (slice_get-get_or c.places-places.result.now i 0 place_in) in
    let reason = subst (λ U. TellsReason U (i + 1) c.reason-reason.result) c.trace-trace.ensures c.reason-reason.ensures in
    record {
      behind = subst (λ k. IsBehind T k c.go_on.new.self) (sym next) (c.go_on.ensures T i is next told_flush told_place c.loop-index.invariant.behind);
      past = subst (IsPast c.args.kept.now (i + 1)) (sym c.past-place.ensures) told.past;
      listed = rw c.in_ok-list_event.ensures
          (dropped-next T i (i + 1) (i + 1) _ c.reason-reason.result c.loop-index.list.items next next is (subst (λ k. TellsReason T k c.reason-reason.result) next reason) c.loop-index.invariant.listed);
    }

pub returns : goal.returns
returns c =
    let T = c.args.safe.now.trace.now in
    let all : length c.events-events.result.now ≡ length T.events = ap (λ xs. length xs) (c.events-events.ensures.value ∙ ap (λ U. U.events) c.trace-trace.ensures) in
    dropped-all T c.loop-index.index c.loop-index.list.items (omega (arith, c.loop-index-test.false, all)) c.loop-index.invariant.listed
