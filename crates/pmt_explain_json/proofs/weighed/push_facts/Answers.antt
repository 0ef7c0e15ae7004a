use Rattle.std.proofs.Common.{ap, ◌∙◌}
use Rattle.serde_json.specs.Written.{has_float}
use Rattle.pmt_explain_json.proofs.PlaceFloats.{entry-float}
use Rattle.pmt_explain_json.proofs.weighed.push_facts.Goals as goal

pub push_value-requires : goal.push_value-requires
push_value-requires c = ap has_float c.in_ok-value.ensures ∙ entry-float c.args.explanation.now c.args.labels.now c.args.entry.now c.args.facts.now
