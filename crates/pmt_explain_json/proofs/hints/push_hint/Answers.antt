use Rattle.std.proofs.Common.{ap, ◌∙◌}
use Rattle.serde_json.specs.Written.{has_float}
use Rattle.pmt_explain_json.proofs.PlaceFloats.{hint-float}
use Rattle.pmt_explain_json.proofs.hints.push_hint.Goals as goal

pub push_value-requires : goal.push_value-requires
push_value-requires c = ap has_float c.in_ok-value.ensures ∙ hint-float c.args.trace.now c.args.labels.now c.args.hint.now
