use Rattle.std.proofs.Common.{[], ◌∷◌}
use Rattle.pmt_explain_json.specs.Entries.{unfenced_data}
use Rattle.pmt_explain_json.proofs.Making.{◌also◌, object-made}
use Rattle.pmt_explain_json.proofs.parts.unfenced_value.Goals as goal

pub returns : goal.returns
returns c =
    object-made c.object_made.result _ _ (_ ∷ _ ∷ _ ∷ _ ∷ []) (unfenced_data c.args.trace.now c.args.labels.now c.args.flush c.args.thread c.args.other)
    c.object_made.ensures c.in_ok-fields.ensures.items
    (c.try_from_str-cause.ensures also c.event_value-flush.ensures also c.event_or_null-other.ensures also c.from.ensures also _)
    (λ d e. e)
