use Rattle.std.proofs.Common.{ap, ◌∙◌, arith}
use Rattle.pmt_explain_json.specs.Entries.{range_after_data}
use Rattle.pmt_explain_json.proofs.Arrays.{array-of-all}
use Rattle.pmt_explain_json.proofs.Pushing.{value-pushed}
use Rattle.pmt_explain_json.proofs.failures.ranges_value.Goals as goal

pub loop-range-preserved : goal.loop-range-preserved
loop-range-preserved c =
    value-pushed range_after_data c.args.ranges.now c.loop-range.range-index c.range-item.result _ _ _ c.loop-range-test.true c.loop-range.invariant
    (c.in_ok-range_after_value.ensures ∙ ap range_after_data c.range-item.is) c.in_ok-push.ensures.items

pub returns : goal.returns
returns c = array-of-all range_after_data c.args.ranges.now c.loop-range.range-index c.loop-range.values c.loop-range.invariant (omega (arith, c.loop-range-test.false))
