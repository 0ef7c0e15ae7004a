use Rattle.std.proofs.Common.{arith}
use Rattle.pmt_explain_json.specs.Entries.{lost_line}
use Rattle.pmt_explain_json.proofs.Pushing.{all-pushed, lines-pushed}
use Rattle.pmt_explain_json.proofs.lines.push_losses.Goals as goal

pub loop-group-preserved : goal.loop-group-preserved
loop-group-preserved c =
    lines-pushed (lost_line c.args.trace.now c.args.labels.now) c.args.groups.now c.loop-group.group-index _ _ _ _ c.loop-group-test.true c.loop-group.invariant c.in_ok-push_lost.ensures

pub returns : goal.returns
returns c = all-pushed (lost_line c.args.trace.now c.args.labels.now) c.args.groups.now c.loop-group.group-index _ _ c.loop-group.invariant (omega (arith, c.loop-group-test.false))
