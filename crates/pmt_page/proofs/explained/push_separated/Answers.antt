use Rattle.pmt_page.proofs.Prelude.{arith, separated_byte}
use Rattle.pmt_page.proofs.Pushing.{piece-pushed, pieces-pushed}
use Rattle.pmt_page.proofs.explained.push_separated.Goals as goal

pub loop-byte-preserved : goal.loop-byte-preserved
loop-byte-preserved c =
    piece-pushed separated_byte c.args.lines.now c.loop-byte.byte-index _ _ _ _ c.loop-byte-test.true c.loop-byte.invariant c.in_ok-push_byte.ensures

pub returns : goal.returns
returns c = pieces-pushed separated_byte c.args.lines.now c.loop-byte.byte-index _ _ c.loop-byte.invariant (omega (arith, c.loop-byte-test.false))
