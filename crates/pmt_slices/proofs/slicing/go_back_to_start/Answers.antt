use Rattle.pmt_slices.proofs.Prelude.{◌≡◌, ◌-◌, ◌<◌, suc, length, ap, subst, ◌∙◌, arith, event-at, IsGoneBack}
use Rattle.pmt_slices.proofs.slicing.go_back_to_start.Goals as goal

pub loop-index-preserved : goal.loop-index-preserved
loop-index-preserved c =
    let T = c.args.trace.now in
    let i = c.loop-index.index - 1 in
    let place : c.loop-index.index ≡ suc i = omega arith in
    let inside : i < length c.events-events.result.now = omega (arith, c.requires.number, ap (λ xs. length xs) c.events-events.ensures.value) in
    let is = event-at T c.format-format.result c.events-events.result.now i c.index-events-index.result c.format-format.ensures.value c.events-events.ensures.value inside c.index-events-index.is in
    record {
      size = c.go_back.ensures.size ∙ c.loop-index.invariant.size;
      back = λ A begins.
          c.go_back.ensures.goes T A i c.args.number c.args.chosen.now c.format-format.ensures.is_trace.format is (omega arith) (omega arith)
          (subst (λ m. IsGoneBack T A m c.args.number c.args.chosen.now c.loop-index.scan c.loop-index.unwritten c.loop-index.chosen) place (c.loop-index.invariant.back A begins));
    }

pub returns-clause-chosen : goal.returns-clause-chosen
returns-clause-chosen c = λ A begins.
    let start : c.loop-index.index ≡ 0 = omega arith in
    (subst (λ m. IsGoneBack c.args.trace.now A m c.args.number c.args.chosen.now c.loop-index.scan c.loop-index.unwritten c.loop-index.chosen) start (c.loop-index.invariant.back A begins)).chosen
