use Rattle.std.proofs.Common.{ap, ◌∙◌, arith}
use Rattle.pmt_explain_json.specs.Lines.{lack_data}
use Rattle.pmt_explain_json.proofs.Arrays.{array-of-all}
use Rattle.pmt_explain_json.proofs.Pushing.{value-pushed}
use Rattle.pmt_explain_json.proofs.lacking.lacks_value.Goals as goal

pub loop-lack-preserved : goal.loop-lack-preserved
loop-lack-preserved c =
    value-pushed lack_data c.args.lacks.now c.loop-lack.lack-index c.lack-item.result _ _ _ c.loop-lack-test.true c.loop-lack.invariant
    (c.in_ok-lack_value.ensures ∙ ap lack_data c.lack-item.is) c.in_ok-push.ensures.items

pub returns : goal.returns
returns c = array-of-all lack_data c.args.lacks.now c.loop-lack.lack-index c.loop-lack.values c.loop-lack.invariant (omega (arith, c.loop-lack-test.false))
