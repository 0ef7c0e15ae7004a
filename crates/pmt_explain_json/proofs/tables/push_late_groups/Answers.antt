use Rattle.std.proofs.Common.{ap, ◌∙◌, ◌++◌, arith}
use Rattle.pmt_explain_json.specs.Lines.{late_line}
use Rattle.pmt_explain_json.proofs.Pushing.{all-pushed, lines-pushed}
use Rattle.pmt_explain_json.proofs.tables.push_late_groups.Goals as goal

pub loop-group-preserved : goal.loop-group-preserved
loop-group-preserved c =
    lines-pushed (late_line c.args.trace.now c.args.labels.now) c.args.groups.now c.loop-group.group-index c.group-item.result _ _ _ c.loop-group-test.true c.loop-group.invariant
    (c.in_ok-push_late.ensures ∙ ap (λ x. c.loop-group.text.items ++ (late_line c.args.trace.now c.args.labels.now) x) c.group-item.is)

pub returns : goal.returns
returns c = all-pushed (late_line c.args.trace.now c.args.labels.now) c.args.groups.now c.loop-group.group-index _ _ c.loop-group.invariant (omega (arith, c.loop-group-test.false))
