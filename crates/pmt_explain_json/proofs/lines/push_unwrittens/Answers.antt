use Rattle.std.proofs.Common.{ap, ◌∙◌, ◌++◌, arith}
use Rattle.pmt_explain_json.specs.Entries.{unwritten_line}
use Rattle.pmt_explain_json.proofs.Pushing.{all-pushed, lines-pushed}
use Rattle.pmt_explain_json.proofs.lines.push_unwrittens.Goals as goal

pub loop-found-preserved : goal.loop-found-preserved
loop-found-preserved c =
    lines-pushed (unwritten_line c.args.trace.now c.args.labels.now) c.args.entries.now c.loop-found.found-index c.found-item.result _ _ _ c.loop-found-test.true c.loop-found.invariant
    (c.in_ok-push_unwritten.ensures ∙ ap (λ x. c.loop-found.text.items ++ (unwritten_line c.args.trace.now c.args.labels.now) x) c.found-item.is)

pub returns : goal.returns
returns c = all-pushed (unwritten_line c.args.trace.now c.args.labels.now) c.args.entries.now c.loop-found.found-index _ _ c.loop-found.invariant (omega (arith, c.loop-found-test.false))
