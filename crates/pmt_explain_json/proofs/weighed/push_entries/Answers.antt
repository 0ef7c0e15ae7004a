use Rattle.std.proofs.Common.{arith}
use Rattle.pmt_explain_json.specs.Lines.{entry_line}
use Rattle.pmt_explain_json.proofs.Pushing.{all-pushed, lines-pushed}
use Rattle.pmt_explain_json.proofs.weighed.push_entries.Goals as goal

pub loop-entry-preserved : goal.loop-entry-preserved
loop-entry-preserved c =
    lines-pushed (entry_line c.args.explanation.now c.args.labels.now) c.args.entries.now c.loop-entry.entry-index _ _ _ _ c.loop-entry-test.true c.loop-entry.invariant c.in_ok-push_entry.ensures

pub returns : goal.returns
returns c = all-pushed (entry_line c.args.explanation.now c.args.labels.now) c.args.entries.now c.loop-entry.entry-index _ _ c.loop-entry.invariant (omega (arith, c.loop-entry-test.false))
