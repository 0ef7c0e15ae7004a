use Rattle.std.proofs.Common.{[], ◌∷◌}
use Rattle.pmt_explain_json.specs.Entries.{overwritten_data}
use Rattle.pmt_explain_json.proofs.Making.{◌also◌, object-made}
use Rattle.pmt_explain_json.proofs.entries.overwritten_value.Goals as goal

pub returns : goal.returns
returns c =
    object-made c.object_made.result _ _ (_ ∷ _ ∷ _ ∷ _ ∷ _ ∷ _ ∷ []) (overwritten_data c.args.trace.now c.args.labels.now c.args.group.now)
    c.object_made.ensures c.in_ok-fields.ensures.items
    (c.line_value-line.ensures also c.from.ensures also c.event_value-earlier.ensures also c.try_from_str-kind.ensures
    also c.event_value-later.ensures also c.from-2.ensures also _)
    (λ d e. e)
