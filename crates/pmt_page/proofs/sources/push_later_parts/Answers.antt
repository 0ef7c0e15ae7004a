use Rattle.pmt_page.proofs.Prelude.{◌∷◌, arith, source_part}
use Rattle.pmt_page.proofs.Pushing.{piece-pushed, pieces-pushed}
use Rattle.pmt_page.proofs.sources.push_later_parts.Goals as goal

pub loop-part-preserved : goal.loop-part-preserved
loop-part-preserved c =
    piece-pushed (λ x. 44 ∷ source_part x) c.args.parts.now c.loop-part.part-index _ _ _ _ c.loop-part-test.true c.loop-part.invariant c.in_ok-push_later_part.ensures

pub returns : goal.returns
returns c = pieces-pushed (λ x. 44 ∷ source_part x) c.args.parts.now c.loop-part.part-index _ _ c.loop-part.invariant (omega (arith, c.loop-part-test.false))
