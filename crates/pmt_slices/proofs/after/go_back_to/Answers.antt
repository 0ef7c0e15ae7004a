use Rattle.pmt_slices.proofs.Prelude.{◌≡◌, ◌-◌, ◌<◌, suc, length, ap, subst, arith, elements, event-at, IsScan}
use Rattle.pmt_slices.proofs.after.go_back_to.Goals as goal

pub loop-index-preserved : goal.loop-index-preserved
loop-index-preserved c =
    let T = c.args.trace.now in
    let past = suc c.args.place in
    let i = c.loop-index.index - 1 in
    let place : c.loop-index.index ≡ suc i = omega arith in
    let inside : i < length c.events-events.result.now = omega (arith, c.requires.place, ap (λ xs. length xs) c.events-events.ensures.value) in
    let is = event-at T c.format-format.result c.events-events.result.now i c.index-events-index.result c.format-format.ensures.value c.events-events.ensures.value inside c.index-events-index.is in
    record {
      low = omega arith;
      back = λ A begins.
          c.go_back_over.ensures T A i past is (omega arith) (omega arith) (subst (λ m. IsScan T A m past c.loop-index.scan) place (c.loop-index.invariant.back A begins));
    }

pub returns : goal.returns
returns c = λ A begins.
    let start : c.loop-index.index ≡ c.args.number = omega arith in
    subst (λ m. IsScan c.args.trace.now A m (suc c.args.place) c.loop-index.scan) start (c.loop-index.invariant.back A begins)

pub format-format-requires : goal.format-format-requires
format-format-requires c = grind (arith, elements)
