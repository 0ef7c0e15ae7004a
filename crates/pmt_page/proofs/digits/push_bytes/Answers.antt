use Rattle.pmt_page.proofs.Prelude.{arith, hex_bytes, hex_pair}
use Rattle.pmt_page.proofs.Pushing.{piece-pushed, pieces-pushed}
use Rattle.pmt_page.proofs.digits.push_bytes.Goals as goal

pub loop-byte-preserved : goal.loop-byte-preserved
loop-byte-preserved c =
    piece-pushed hex_pair c.args.bytes.now c.loop-byte.byte-index _ _ _ _ c.loop-byte-test.true c.loop-byte.invariant c.in_ok-push_pair.ensures

pub returns : goal.returns
unfolding hex_bytes
returns c = pieces-pushed hex_pair c.args.bytes.now c.loop-byte.byte-index _ _ c.loop-byte.invariant (omega (arith, c.loop-byte-test.false))
