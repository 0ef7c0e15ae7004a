use Rattle.pmt_page.proofs.Prelude.{arith, embedded_byte}
use Rattle.pmt_page.proofs.Pushing.{piece-pushed, pieces-pushed}
use Rattle.pmt_page.proofs.escapes.push_embedded.Goals as goal

pub loop-byte-preserved : goal.loop-byte-preserved
loop-byte-preserved c =
    piece-pushed embedded_byte c.args.json.now c.loop-byte.byte-index _ _ _ _ c.loop-byte-test.true c.loop-byte.invariant c.in_ok-push_embedded_byte.ensures

pub returns : goal.returns
returns c = pieces-pushed embedded_byte c.args.json.now c.loop-byte.byte-index _ _ c.loop-byte.invariant (omega (arith, c.loop-byte-test.false))
