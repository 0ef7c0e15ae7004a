use Rattle.std.proofs.Common.{arith}
use Rattle.pmt_explain_json.specs.Entries.{dropped_line}
use Rattle.pmt_explain_json.proofs.Pushing.{all-pushed, lines-pushed}
use Rattle.pmt_explain_json.proofs.lines.push_drops.Goals as goal

pub loop-dropped-preserved : goal.loop-dropped-preserved
loop-dropped-preserved c =
    lines-pushed (dropped_line c.args.trace.now c.args.labels.now) c.args.entries.now c.loop-dropped.dropped-index _ _ _ _ c.loop-dropped-test.true c.loop-dropped.invariant c.in_ok-push_dropped.ensures

pub returns : goal.returns
returns c = all-pushed (dropped_line c.args.trace.now c.args.labels.now) c.args.entries.now c.loop-dropped.dropped-index _ _ c.loop-dropped.invariant (omega (arith, c.loop-dropped-test.false))
