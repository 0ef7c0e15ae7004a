use Rattle.std.proofs.Common.{arith}
use Rattle.pmt_explain_json.specs.Entries.{overwritten_line}
use Rattle.pmt_explain_json.proofs.Pushing.{all-pushed, lines-pushed}
use Rattle.pmt_explain_json.proofs.lines.push_overwritings.Goals as goal

pub loop-group-preserved : goal.loop-group-preserved
loop-group-preserved c =
    lines-pushed (overwritten_line c.args.trace.now c.args.labels.now) c.args.groups.now c.loop-group.group-index _ _ _ _ c.loop-group-test.true c.loop-group.invariant c.in_ok-push_overwritten.ensures

pub returns : goal.returns
returns c = all-pushed (overwritten_line c.args.trace.now c.args.labels.now) c.args.groups.now c.loop-group.group-index _ _ c.loop-group.invariant (omega (arith, c.loop-group-test.false))
