use Rattle.pmt_page.proofs.Prelude.{arith, verdict_letter}
use Rattle.pmt_page.proofs.Pushing.{letter-pushed, letters-pushed}
use Rattle.pmt_page.proofs.fields.push_verdicts.Goals as goal

pub loop-verdict-preserved : goal.loop-verdict-preserved
loop-verdict-preserved c =
    letter-pushed verdict_letter c.args.verdicts.now c.loop-verdict.verdict-index _ _ _ _ _ c.loop-verdict-test.true c.loop-verdict.invariant
    c.in_ok-push.ensures.items c.verdict_letter.ensures

pub returns : goal.returns
returns c = letters-pushed verdict_letter c.args.verdicts.now c.loop-verdict.verdict-index _ _ c.loop-verdict.invariant (omega (arith, c.loop-verdict-test.false))
