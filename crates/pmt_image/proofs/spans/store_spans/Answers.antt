use Rattle.pmt_image.proofs.Prelude.{ℕ, suc, ◌+◌, ◌<◌, ◌≤◌, List, [], ◌∷◌, length, Some, subst, sym, ap, ◌∙◌, add-one, arith, elements, slice_get-get_or, length-append, Act, IsAct, act_of, count_at, act-unique, TellsSafe, StoreSpan, count_in, IsSpan}
use Rattle.pmt_explain.proofs.FollowingLemmas.{event-at}
use Rattle.pmt_image.proofs.StoreLemmas.{count-few}
use Rattle.pmt_image.proofs.SpanLemmas.{span-next, spans-more, stored-next}
use Rattle.pmt_image.proofs.spans.store_spans.Goals as goal

pub span_of-requires : goal.span_of-requires
span_of-requires c = λ l.
    let few : length c.args.trace.now.events ≤ 1000000 = c.events-events.ensures.is_trace.few in
    omega (arith, c.loop-index.invariant.stored l, count-few c.args.trace.now l c.loop-index.index, c.loop-index-test.true, ap (λ xs. length xs) c.events-events.ensures.value, few)

pub loop-index-preserved : goal.loop-index-preserved
loop-index-preserved c =
    let T = c.args.trace.now in
    let i = c.loop-index.index in
    let e = c.index-events-index.result in
    let inside : i < length c.events-events.result.now = omega (arith, c.loop-index-test.true) in
    let is = event-at T c.format-format.result c.events-events.result.now i e c.format-format.ensures.value c.events-events.ensures.value inside c.index-events-index.is in
    let a = act_of c.format-format.result e.thread e.op in
    let at : i < length c.in_ok-safe.safe.items = omega (arith, c.in_ok-safe.ensures.size, c.loop-index-test.true, ap (λ xs. length xs) c.events-events.ensures.value) in
    let p : ℕ = c.index-place.result.now in
    let tells : TellsSafe T (suc i) p = c.in_ok-safe.ensures.each i p (slice_get-get_or c.in_ok-safe.safe.items i p at ∙ ap Some (sym c.index-place.ensures)) in
    let x = c.in_ok-span.span in
    let span : (b : Act) → IsAct T (suc i) b → IsSpan T (suc i) b x = λ b other.
    subst (λ (d : Act). IsSpan T (suc i) d x) (act-unique T (suc i) a b is other)
    (subst (λ (y : StoreSpan). IsSpan T (suc i) a y) (sym (c.in_ok-span.ensures.span e.thread)) (span-next T i a (count_in c.loop-index.stored) p is c.loop-index.invariant.stored tells)) in
    record {
      size = ap (λ (ys : List StoreSpan). length ys) c.in_ok-push.ensures.items ∙ length-append c.loop-index.spans.items (x ∷ []) ∙ ap (λ (k : ℕ). k + 1) c.loop-index.invariant.size;
      stored = λ k.
          c.in_ok-span.ensures.stored e.thread k ∙ stored-next T i a (count_in c.loop-index.stored) is c.loop-index.invariant.stored k ∙ ap (λ (n : ℕ). count_at T k n) (sym (add-one i));
      each = spans-more T i c.loop-index.spans.items c.push.new.self.items x c.loop-index.invariant.each c.loop-index.invariant.size c.in_ok-push.ensures.items span;
    }

pub returns : goal.returns
returns c = record { size = omega (arith, c.loop-index.invariant.size, c.loop-index-test.false, c.loop-index-test, ap (λ xs. length xs) c.events-events.ensures.value); each = c.loop-index.invariant.each }

pub loop-index-init : goal.loop-index-init
loop-index-init c = grind (arith, elements)

pub index-place-requires : goal.index-place-requires
index-place-requires c = grind (arith, elements)

pub returns-in_err-span : goal.returns-in_err-span
returns-in_err-span c = grind (arith, elements)

pub returns-in_err-push : goal.returns-in_err-push
returns-in_err-push c = grind (arith, elements)
