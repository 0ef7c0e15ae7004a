use Rattle.std.proofs.Common.{ap, ◌∙◌, ◌++◌, arith}
use Rattle.pmt_explain_json.specs.Places.{cause_line}
use Rattle.pmt_explain_json.proofs.Pushing.{all-pushed, lines-pushed}
use Rattle.pmt_explain_json.proofs.lines.push_causes.Goals as goal

pub loop-group-preserved : goal.loop-group-preserved
loop-group-preserved c =
    lines-pushed (cause_line c.args.labels.now) c.args.groups.now c.loop-group.group-index c.group-item.result _ _ _ c.loop-group-test.true c.loop-group.invariant
    (c.in_ok-push_cause.ensures ∙ ap (λ x. c.loop-group.text.items ++ (cause_line c.args.labels.now) x) c.group-item.is)

pub returns : goal.returns
returns c = all-pushed (cause_line c.args.labels.now) c.args.groups.now c.loop-group.group-index _ _ c.loop-group.invariant (omega (arith, c.loop-group-test.false))
