use Rattle.std.proofs.Common.{[], ◌∷◌}
use Rattle.pmt_explain_json.specs.Entries.{dropped_data}
use Rattle.pmt_explain_json.proofs.Making.{◌also◌, object-made}
use Rattle.pmt_explain_json.proofs.entries.dropped_value.Goals as goal

pub returns : goal.returns
returns c =
    object-made c.object_made.result _ _ (_ ∷ _ ∷ _ ∷ []) (dropped_data c.args.trace.now c.args.labels.now c.args.dropped)
    c.object_made.ensures c.in_ok-fields.ensures.items
    (c.event_value-event.ensures also c.try_from_str-kind.ensures also c.reason_value-reason.ensures also _)
    (λ d e. e)
