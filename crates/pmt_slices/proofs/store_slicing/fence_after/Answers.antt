use Rattle.pmt_slices.proofs.Prelude.{◌≡◌, ◌<◌, ◌≤◌, ◌+◌, suc, false, length, refl, sym, ap, subst, ◌∙◌, arith, IsFirst, IsFenceAfter, past_of, event-at, is_fence}
use Rattle.pmt_slices.proofs.StoreSliceLemmas.{no-fence-more, fence-found, no-fence-found}
use Rattle.pmt_slices.proofs.store_slicing.fence_after.Goals as goal

pub returns-then-is_fence : goal.returns-then-is_fence
returns-then-is_fence c =
    let T = c.args.trace.now in
    let es = c.events-events.result.now in
    let i = c.loop-index.index in
    let e = c.index-events-index.result in
    let inside : i < length es = omega arith in
    let is = event-at T T.format es i e refl c.events-events.ensures.value inside c.index-events-index.is in
    let early : suc i < past_of T = omega (arith, inside, ap (λ xs. length xs) c.events-events.ensures.value) in
    let found = fence-found T c.args.thread c.args.number i e.thread e.op is c.if-event-thread.true (sym c.is_fence.ensures ∙ c.if-is_fence.true) c.loop-index.invariant.low early c.loop-index.invariant.none in
    let place : suc i ≡ i + 1 = omega arith in
    subst (IsFirst (IsFenceAfter T c.args.thread c.args.number) (past_of T)) place found

pub loop-index-preserved : goal.loop-index-preserved
loop-index-preserved c =
    let T = c.args.trace.now in
    let es = c.events-events.result.now in
    let i = c.loop-index.index in
    let e = c.index-events-index.result in
    let inside : i < length es = omega arith in
    let is = event-at T T.format es i e refl c.events-events.ensures.value inside c.index-events-index.is in
    let other : e.thread ≡ c.args.thread → is_fence e.op ≡ false = λ same.
    elim c.else-event-thread.branch [
      | goal.else-event-thread-via-then-event-thread+else-is_fence w ↦ sym w.is_fence.ensures ∙ w.if-is_fence.false
      | goal.else-event-thread-via-else-event-thread w ↦ absurd (w.if-event-thread.false same)
    ] in
    record {
      low = omega (arith, c.loop-index.invariant.low);
      none = λ k by x. no-fence-more T c.args.thread c.args.number i e.thread e.op is other c.loop-index.invariant.none k (omega (arith, by)) x;
    }

pub returns : goal.returns
returns c =
    let T = c.args.trace.now in
    let es = c.events-events.result.now in
    let all : length T.events ≤ c.loop-index.index = omega (arith, c.loop-index-test.false, ap (λ xs. length xs) c.events-events.ensures.value) in
    let end : past_of T ≡ length es + 1 = omega (arith, ap (λ xs. length xs) c.events-events.ensures.value) in
    subst (IsFirst (IsFenceAfter T c.args.thread c.args.number) (past_of T)) end (no-fence-found T c.args.thread c.args.number c.loop-index.index all c.loop-index.invariant.none)
