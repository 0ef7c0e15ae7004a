use Rattle.std.proofs.Common.{◌≡◌, ◌+◌, ◌≤◌, ◌<◌, inl, inr, length, refl, sym, ap, ◌∙◌, arith, add-one, None, Some}
use Rattle.std.proofs.lemmas.Bool.{cases_lt}
use Rattle.std.proofs.lemmas.Option.{slice_get-get_or}
use Rattle.pmt_reasons.proofs.ScanLemmas.{scan-start, scan-event, scanned-safe, scanned-all}
use Rattle.pmt_explain.proofs.causing.cause_since.Goals as goal

pub loop-index-init : goal.loop-index-init
loop-index-init c = scan-start c.args.trace.now c.args.line c.args.store _ refl

pub returns-in-None : goal.returns-in-None
returns-in-None c =
    let T = c.args.trace.now in
    let es = c.events-events.result.now in
    let n = c.loop-index.index in
    let e = c.index-events-index.result in
    let inside : n < length es = omega (arith, c.min-end.ensures, c.loop-index-test.true) in
    let step = scan-event T c.format-format.result es c.args.line c.args.store n (n + 1) e c.loop-index.flushed c.next_cause.new.flushed c.loop-index.cause None
    c.format-format.ensures.value c.events-events.ensures.value (add-one n) (slice_get-get_or es n e inside ∙ ap Some (sym c.index-events-index.is)) c.events-events.ensures.is_trace
    (omega arith) (sym c.in-None.is ∙ c.next_cause.ensures.cause) c.next_cause.ensures.flushed c.loop-index.invariant in
    scanned-safe T c.args.line c.args.store (n + 1) c.args.place (omega (arith, c.min-end.ensures, c.loop-index-test.true)) step

pub loop-index-preserved : goal.loop-index-preserved
loop-index-preserved c =
    let es = c.events-events.result.now in
    let n = c.loop-index.index in
    let e = c.index-events-index.result in
    let inside : n < length es = omega (arith, c.min-end.ensures, c.loop-index-test.true) in
    scan-event c.args.trace.now c.format-format.result es c.args.line c.args.store n (n + 1) e c.loop-index.flushed c.next_cause.new.flushed c.loop-index.cause (Some c.in-Some.next)
    c.format-format.ensures.value c.events-events.ensures.value (add-one n) (slice_get-get_or es n e inside ∙ ap Some (sym c.index-events-index.is)) c.events-events.ensures.is_trace
    (omega arith) (sym c.in-Some.is ∙ c.next_cause.ensures.cause) c.next_cause.ensures.flushed c.loop-index.invariant

pub returns : goal.returns
returns c =
    let T = c.args.trace.now in
    let all : length c.events-events.result.now ≡ length T.events = ap (λ xs. length xs) c.events-events.ensures.value in
    let begin : c.args.store ≤ c.min-end.result = omega (arith, c.min-end.ensures, c.requires.place, c.requires.within) in
    let last : c.loop-index.index ≤ c.min-end.result = c.loop-index.auto.index-end begin in
    scanned-all T c.args.line c.args.store c.loop-index.index c.args.place c.loop-index.cause (omega arith) (omega (arith, c.min-end.ensures))
    (elim (cases_lt c.loop-index.index c.args.place) [
      | inl less ↦ inr (omega (arith, c.min-end.ensures, c.loop-index-test.false))
      | inr more ↦ inl (omega (arith, c.min-end.ensures, c.loop-index-test.false))
    ]) c.loop-index.invariant.why
