use Rattle.std.proofs.Common.{◌≡◌, ◌+◌, ◌-◌, ◌<◌, length, suc, Some, sym, ap, ◌∙◌, arith}
use Rattle.std.specs.Prelude.{slice_get}
use Rattle.std.proofs.lemmas.Option.{slice_get-get_or}
use Rattle.pmt_explain.specs.CauseOf.{cause_in}
use Rattle.pmt_explain.proofs.AtEndLemmas.{back-end, back-event}
use Rattle.pmt_explain.proofs.at_end.causes_after.Goals as goal

pub returns : goal.returns
returns c = record { all = c.loop-index.invariant.size; each = λ k o at. c.loop-index.invariant.each k o (omega arith) at }

pub loop-index-init : goal.loop-index-init
loop-index-init c =
    back-end c.args.trace.now c.args.start (length c.events-events.result.now) _ _ _ c.in_ok-causes.causes.items (ap (λ es. length es) c.events-events.ensures.value) c.new-ahead.ensures.fenced
    c.new-ahead.ensures.fence c.new-ahead.ensures.lines (omega (arith, c.in_ok-causes.causes.ok.0, (c.in_ok-causes.ensures {u = tt}).len, ap (λ es. length es) c.events-events.ensures.value, c.requires))

pub loop-index-preserved : goal.loop-index-preserved
loop-index-preserved c =
    let T = c.args.trace.now in
    let es = c.events-events.result.now in
    let i = c.loop-index.index in
    let e = c.index-events-index.result in
    let inside : i - 1 < length es = omega arith in
    let at : slice_get es (i - 1) ≡ Some e = slice_get-get_or es (i - 1) e inside ∙ ap Some (sym c.index-events-index.is) in
    let told = c.in_ok-causes-2.ensures {u = tt} in
    let place : i ≡ suc (i - 1) = omega arith in
    let number : i - 1 + 1 ≡ suc (i - 1) = omega arith in
    back-event T c.format-format.result es c.args.start i (i - 1) (i - 1 + 1) e c.loop-index.ahead.fenced c.go_back.new.self.fenced c.loop-index.ahead.fence c.go_back.new.self.fence
    (cause_in c.loop-index.ahead.lines) (cause_in c.go_back.new.self.lines) c.loop-index.causes.items c.in_ok-causes-2.field-0 c.format-format.ensures.value c.events-events.ensures.value (omega arith) place number at
    c.events-events.ensures.is_trace told.fenced told.fence told.lines told.told c.loop-index.invariant
