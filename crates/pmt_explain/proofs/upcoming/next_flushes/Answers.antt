use Rattle.std.proofs.Common.{◌≡◌, ◌+◌, ◌-◌, suc, ◌<◌, length, subst, sym, ap, ◌∙◌, arith}
use Rattle.std.proofs.lemmas.List.{length-set}
use Rattle.std.proofs.lemmas.Option.{slice_get_within}
use Rattle.pmt_model.specs.Traces.{act_of}
use Rattle.pmt_explain.specs.Following.{past_of, TellsNextFlush, next_before, next_in}
use Rattle.pmt_explain.specs.Numbers.{number_at}
use Rattle.pmt_explain.proofs.FollowingLemmas.{event-at, told-set}
use Rattle.pmt_explain.proofs.UpcomingLemmas.{IsAheadOf, flushes-start, flushes-back, next-told}
use Rattle.pmt_explain.proofs.upcoming.next_flushes.Goals as goal

pub loop-index-init : goal.loop-index-init
loop-index-init c =
    let T = c.args.trace.now in
    let events : length c.events-events.result.now ≡ length T.events = ap (λ xs. length xs) c.events-events.ensures.value in
    let size : length c.in_ok-list.list.items ≡ length T.events = omega (arith, c.in_ok-list.ensures.len, events) in
    record {
      size = size;
      ahead = subst (λ n. IsAheadOf T n c.new-next.result) (sym events) (flushes-start T c.new-next.result c.new-next.ensures);
      each = λ n p from is. absurd (omega (arith, slice_get_within c.in_ok-list.list.items n p is, size, events));
    }

pub loop-index-preserved : goal.loop-index-preserved
loop-index-preserved c =
    let T = c.args.trace.now in
    let i = c.loop-index.index - 1 in
    let events : length c.events-events.result.now ≡ length T.events = ap (λ xs. length xs) c.events-events.ensures.value in
    let before : c.loop-index.index ≡ suc (c.loop-index.index - 1) = omega arith in
    let within : c.loop-index.index - 1 < length c.events-events.result.now = omega arith in
    let inside : c.loop-index.index - 1 < length c.loop-index.list.items = omega (arith, c.loop-index.invariant.size, events) in
    let is = event-at T c.format-format.result c.events-events.result.now i c.index-events-index.result c.format-format.ensures.value c.events-events.ensures.value within c.index-events-index.is in
    let old = subst (λ k. IsAheadOf T k c.loop-index.next) before c.loop-index.invariant.ahead in
    let t = c.index-events-index.result.thread in
    let a = act_of c.format-format.result t c.index-events-index.result.op in
    let past : length c.events-events.result.now + 1 ≡ past_of T = omega (arith, events) in
    let flush = c.in_ok-flush.flush in
    let new = c.next_flush.new.next in
    let tells : TellsNextFlush T (suc i) flush =
    subst (TellsNextFlush T (suc i)) (sym (c.in_ok-flush.ensures.told t ∙ ap (λ p. next_in p c.loop-index.next a) past)) (next-told T i a c.loop-index.next is old) in
    record {
      size = length-set c.loop-index.list.items i flush ∙ c.loop-index.invariant.size;
      ahead = flushes-back T i _ a c.loop-index.next new (omega arith) is
          (λ l. subst (λ p. number_at p new l ≡ next_before a (c.loop-index.index - 1 + 1) l (number_at p c.loop-index.next l)) past (c.in_ok-flush.ensures.noted t l)) old;
      each = λ n p from at. told-set (TellsNextFlush T) c.loop-index.list.items i n flush p inside tells (λ m q later here. c.loop-index.invariant.each m q (omega arith) here) from at;
    }

pub returns : goal.returns
returns c = record { size = c.loop-index.invariant.size; each = λ n p is. c.loop-index.invariant.each n p (omega arith) is }
