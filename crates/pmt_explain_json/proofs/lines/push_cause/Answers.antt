use Rattle.std.proofs.Common.{ap, ◌∙◌}
use Rattle.serde_json.specs.Written.{has_float}
use Rattle.pmt_explain_json.proofs.NoFloats.{cause_group-float}
use Rattle.pmt_explain_json.proofs.lines.push_cause.Goals as goal

pub push_value-requires : goal.push_value-requires
push_value-requires c = ap has_float c.in_ok-value.ensures ∙ cause_group-float c.args.labels.now c.args.group.now
