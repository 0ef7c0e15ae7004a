use Rattle.std.proofs.Common.{ap, ◌∙◌}
use Rattle.serde_json.specs.Written.{has_float}
use Rattle.serde_json.specs.View.{view}
use Rattle.pmt_explain_json.proofs.NoFloats.{summary-float, more-float}
use Rattle.pmt_explain_json.proofs.lines.push_summary.Goals as goal

pub push_value-requires : goal.push_value-requires
push_value-requires c =
    ap has_float c.in_ok-value.ensures
    ∙ summary-float c.args.counts.now c.args.explanation.now.limit c.args.choice.now (view c.in_ok-more.more) c.args.lacks.now c.args.explanation.now.entries.verdict
    (ap has_float c.in_ok-more.ensures ∙ more-float c.args.explanation.now c.args.choice.now)
