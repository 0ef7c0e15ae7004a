use Rattle.pmt_page.proofs.Prelude.{arith, refl, steps}
use Rattle.pmt_page.proofs.Pushing.{item-pushed, items-pushed}
use Rattle.pmt_page.proofs.fields.push_steps.Goals as goal

pub loop-number-preserved : goal.loop-number-preserved
loop-number-preserved c =
    item-pushed (steps c.loop-number.before) (steps _) c.args.numbers.now c.loop-number.number-index _ _ _ _ _ c.loop-number-test.true (λ ys. refl) c.loop-number.invariant
    c.in_ok-push_step.ensures

pub returns : goal.returns
returns c = items-pushed (steps c.loop-number.before) c.args.numbers.now c.loop-number.number-index _ _ refl c.loop-number.invariant (omega (arith, c.loop-number-test.false))
