use Rattle.std.proofs.Common.{arith}
use Rattle.pmt_explain_json.specs.Entries.{line_count_data}
use Rattle.pmt_explain_json.proofs.Arrays.{array-of-all}
use Rattle.pmt_explain_json.proofs.Pushing.{value-pushed}
use Rattle.pmt_explain_json.proofs.failures.lines_value.Goals as goal

pub loop-line-preserved : goal.loop-line-preserved
loop-line-preserved c =
    value-pushed (line_count_data c.args.trace.now) c.args.lines.now c.loop-line.line-index _ _ _ _ c.loop-line-test.true c.loop-line.invariant c.in_ok-line_count_value.ensures c.in_ok-push.ensures.items

pub returns : goal.returns
returns c = array-of-all (line_count_data c.args.trace.now) c.args.lines.now c.loop-line.line-index c.loop-line.values c.loop-line.invariant (omega (arith, c.loop-line-test.false))
