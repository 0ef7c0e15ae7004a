use Rattle.std.proofs.Common.{arith}
use Rattle.pmt_explain_json.specs.Places.{hint_line}
use Rattle.pmt_explain_json.proofs.Pushing.{all-pushed, lines-pushed}
use Rattle.pmt_explain_json.proofs.hints.push_hints.Goals as goal

pub loop-hint-preserved : goal.loop-hint-preserved
loop-hint-preserved c =
    lines-pushed (hint_line c.args.trace.now c.args.labels.now) c.args.hints.now c.loop-hint.hint-index _ _ _ _ c.loop-hint-test.true c.loop-hint.invariant c.in_ok-push_hint.ensures

pub returns : goal.returns
returns c = all-pushed (hint_line c.args.trace.now c.args.labels.now) c.args.hints.now c.loop-hint.hint-index _ _ c.loop-hint.invariant (omega (arith, c.loop-hint-test.false))
