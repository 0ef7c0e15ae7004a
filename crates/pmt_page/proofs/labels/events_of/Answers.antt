use Rattle.pmt_page.proofs.Prelude.{arith, refl, Label}
use Rattle.pmt_page.proofs.Pushing.{letter-pushed, letters-pushed}
use Rattle.pmt_page.proofs.labels.events_of.Goals as goal

pub loop-label-preserved : goal.loop-label-preserved
loop-label-preserved c =
    letter-pushed (λ (x : Label). x.event) c.args.labels.now c.loop-label.label-index _ _ _ _ _ c.loop-label-test.true c.loop-label.invariant c.in_ok-push.ensures.items refl

pub returns : goal.returns
returns c = letters-pushed (λ (x : Label). x.event) c.args.labels.now c.loop-label.label-index _ _ c.loop-label.invariant (omega (arith, c.loop-label-test.false))
