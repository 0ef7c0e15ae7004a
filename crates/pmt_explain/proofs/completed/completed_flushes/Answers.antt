use Rattle.std.proofs.Common.{◌≡◌, ℕ, ◌-◌, ◌<◌, length, refl, sym, ap, ◌∙◌, arith, rules, Some}
use Rattle.std.proofs.lemmas.Option.{slice_get-get_or}
use Rattle.pmt_explain.specs.Crashes.{flush_at}
use Rattle.pmt_explain.proofs.CompletedLemmas.{gone-start, gone-back, gone-all}
use Rattle.pmt_explain.proofs.completed.completed_flushes.Goals as goal

pub loop-index-init : goal.loop-index-init
loop-index-init c =
    let none : (l : ℕ) → flush_at c.new-flushes.result l ≡ 0 = λ l. search rules in
    gone-start c.args.trace.now c.args.place _ c.new-flushes.result c.requires refl none

pub loop-index-preserved : goal.loop-index-preserved
loop-index-preserved c =
    let es = c.events-events.result.now in
    let m = c.loop-index.index in
    let e = c.index-events-index.result in
    let inside : m - 1 < length es = omega (arith, c.requires, c.loop-index.auto.index, c.loop-index-test.true, ap (λ xs. length xs) c.events-events.ensures.value) in
    gone-back c.args.trace.now c.format-format.result es c.args.place m (m - 1) _ e c.loop-index.fenced c.go_back.new.fenced c.loop-index.flushes c.go_back.new.flushes
    c.format-format.ensures.value c.events-events.ensures.value (omega (arith, c.loop-index-test.true)) (omega (arith, c.loop-index-test.true)) c.loop-index.auto.index
    (slice_get-get_or es (m - 1) e inside ∙ ap Some (sym c.index-events-index.is)) c.events-events.ensures.is_trace c.in_ok-go_back.ensures.fenced c.in_ok-go_back.ensures.flushes c.loop-index.invariant

pub returns : goal.returns
returns c =
    let start : c.loop-index.index ≡ 0 = omega (arith, c.loop-index-test.false) in
    gone-all c.args.trace.now c.args.place c.loop-index.fenced c.loop-index.flushes (rw (← start) c.loop-index.invariant)
