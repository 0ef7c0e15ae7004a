use Rattle.pmt_page.proofs.Prelude.{arith, html_byte}
use Rattle.pmt_page.proofs.Pushing.{piece-pushed, pieces-pushed}
use Rattle.pmt_page.proofs.escapes.push_html.Goals as goal

pub loop-byte-preserved : goal.loop-byte-preserved
loop-byte-preserved c =
    piece-pushed html_byte c.args.words.now c.loop-byte.byte-index _ _ _ _ c.loop-byte-test.true c.loop-byte.invariant c.in_ok-push_html_byte.ensures

pub returns : goal.returns
returns c = pieces-pushed html_byte c.args.words.now c.loop-byte.byte-index _ _ c.loop-byte.invariant (omega (arith, c.loop-byte-test.false))
