use Rattle.std.proofs.Common.{arith}
use Rattle.pmt_explain_json.specs.Entries.{count_data}
use Rattle.pmt_explain_json.proofs.Arrays.{array-of-all}
use Rattle.pmt_explain_json.proofs.Pushing.{value-pushed}
use Rattle.pmt_explain_json.proofs.causes.numbers_value.Goals as goal

pub loop-number-preserved : goal.loop-number-preserved
loop-number-preserved c =
    value-pushed count_data c.args.numbers.now c.loop-number.number-index _ _ _ _ c.loop-number-test.true c.loop-number.invariant c.from.ensures c.in_ok-push.ensures.items

pub returns : goal.returns
returns c = array-of-all count_data c.args.numbers.now c.loop-number.number-index c.loop-number.values c.loop-number.invariant (omega (arith, c.loop-number-test.false))
