use Rattle.std.proofs.Common.{◌≡◌, ◌-◌, ◌<◌, suc, length, sym, ap, subst, ◌∙◌, arith}
use Rattle.pmt_model.specs.Traces.{IsAct, act_of}
use Rattle.pmt_explain.specs.Following.{past_of}
use Rattle.pmt_explain.proofs.FollowingLemmas.{event-at}
use Rattle.pmt_explain.proofs.ReasonLemmas.{walk-start, walk-on, walk-found, walk-end}
use Rattle.pmt_explain.proofs.reasons.flushed_again.Goals as goal

pub loop-flush-init : goal.loop-flush-init
loop-flush-init c = walk-start c.args.trace.now c.args.thread c.args.line c.args.number c.number_of-flush.result c.args.flushes.now c.requires.is c.requires.flushes c.number_of-flush.ensures

pub bounds-events-index : goal.bounds-events-index
bounds-events-index c = omega (arith, c.loop-flush.invariant.later, c.loop-flush-test.true, c.requires.within, ap (λ xs. length xs) c.events-events.ensures.value)

pub returns-then-is_flush_by : goal.returns-then-is_flush_by
returns-then-is_flush_by c =
    let T = c.args.trace.now in
    let flush = c.loop-flush.flush in
    let i = c.loop-flush.flush - 1 in
    let e = c.index-events-index.result in
    let number : suc (c.loop-flush.flush - 1) ≡ c.loop-flush.flush = omega (arith, c.loop-flush.invariant.later) in
    let within : c.loop-flush.flush - 1 < length c.events-events.result.now = omega (arith, c.loop-flush.invariant.later, c.loop-flush-test.true, c.requires.within, ap (λ xs. length xs) c.events-events.ensures.value) in
    let is = event-at T c.format-format.result c.events-events.result.now i e c.format-format.ensures.value c.events-events.ensures.value within c.index-events-index.is in
    let at = subst (λ k. IsAct T k (act_of c.format-format.result e.thread e.op)) number is in
    walk-found T c.args.thread c.args.line c.args.number flush c.args.fence _ c.requires.within c.loop-flush-test.true at (sym c.is_flush_by.ensures ∙ c.if-is_flush_by.true) c.loop-flush.invariant

pub loop-flush-preserved : goal.loop-flush-preserved
loop-flush-preserved c =
    let T = c.args.trace.now in
    let flush = c.loop-flush.flush in
    let i = c.loop-flush.flush - 1 in
    let e = c.index-events-index.result in
    let number : suc (c.loop-flush.flush - 1) ≡ c.loop-flush.flush = omega (arith, c.loop-flush.invariant.later) in
    let within : c.loop-flush.flush - 1 < length c.events-events.result.now = omega (arith, c.loop-flush.invariant.later, c.loop-flush-test.true, c.requires.within, ap (λ xs. length xs) c.events-events.ensures.value) in
    let is = event-at T c.format-format.result c.events-events.result.now i e c.format-format.ensures.value c.events-events.ensures.value within c.index-events-index.is in
    let at = subst (λ k. IsAct T k (act_of c.format-format.result e.thread e.op)) number is in
    let inside : c.loop-flush.flush < past_of T = omega (arith, c.loop-flush-test.true, c.requires.within) in
    (walk-on T c.args.thread c.args.line c.args.number flush c.number_of-flush-in-loop-flush.result c.args.flushes.now _ c.requires.flushes inside at (sym c.is_flush_by.ensures ∙ c.if-is_flush_by.false) c.number_of-flush-in-loop-flush.ensures c.loop-flush.invariant).1

pub loop-flush-smaller : goal.loop-flush-smaller
loop-flush-smaller c =
    let T = c.args.trace.now in
    let flush = c.loop-flush.flush in
    let i = c.loop-flush.flush - 1 in
    let e = c.index-events-index.result in
    let number : suc (c.loop-flush.flush - 1) ≡ c.loop-flush.flush = omega (arith, c.loop-flush.invariant.later) in
    let within : c.loop-flush.flush - 1 < length c.events-events.result.now = omega (arith, c.loop-flush.invariant.later, c.loop-flush-test.true, c.requires.within, ap (λ xs. length xs) c.events-events.ensures.value) in
    let is = event-at T c.format-format.result c.events-events.result.now i e c.format-format.ensures.value c.events-events.ensures.value within c.index-events-index.is in
    let at = subst (λ k. IsAct T k (act_of c.format-format.result e.thread e.op)) number is in
    let inside : c.loop-flush.flush < past_of T = omega (arith, c.loop-flush-test.true, c.requires.within) in
    let further = (walk-on T c.args.thread c.args.line c.args.number flush c.number_of-flush-in-loop-flush.result c.args.flushes.now _ c.requires.flushes inside at (sym c.is_flush_by.ensures ∙ c.if-is_flush_by.false) c.number_of-flush-in-loop-flush.ensures c.loop-flush.invariant).0 in
    omega (arith, further, c.loop-flush-test.true)

pub returns : goal.returns
returns c = walk-end c.args.trace.now c.args.thread c.args.line c.args.number c.loop-flush.flush c.args.fence (omega (arith, c.loop-flush-test.false)) c.loop-flush.invariant
