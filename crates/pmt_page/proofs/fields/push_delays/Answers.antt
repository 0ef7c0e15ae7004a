use Rattle.pmt_page.proofs.Prelude.{◌∷◌, arith, safe_field}
use Rattle.pmt_page.proofs.Pushing.{piece-pushed, pieces-pushed}
use Rattle.pmt_page.proofs.fields.push_delays.Goals as goal

pub loop-one-preserved : goal.loop-one-preserved
loop-one-preserved c =
    piece-pushed (λ s. 44 ∷ safe_field s) c.args.safe.now c.loop-one.one-index _ _ _ _ c.loop-one-test.true c.loop-one.invariant c.in_ok-push_later_delay.ensures

pub returns : goal.returns
returns c = pieces-pushed (λ s. 44 ∷ safe_field s) c.args.safe.now c.loop-one.one-index _ _ c.loop-one.invariant (omega (arith, c.loop-one-test.false))
