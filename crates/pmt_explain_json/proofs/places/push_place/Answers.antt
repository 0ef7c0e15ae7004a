use Rattle.std.proofs.Common.{ap, ◌∙◌}
use Rattle.serde_json.specs.Written.{has_float}
use Rattle.pmt_explain_json.proofs.PlaceFloats.{place-float}
use Rattle.pmt_explain_json.proofs.places.push_place.Goals as goal

pub push_value-requires : goal.push_value-requires
push_value-requires c = ap has_float c.in_ok-value.ensures ∙ place-float c.args.trace.now c.args.labels.now c.args.whole c.args.row.now
