use Rattle.std.proofs.Common.{[], ◌∷◌}
use Rattle.pmt_explain_json.specs.Lines.{asked_data}
use Rattle.pmt_explain_json.proofs.Making.{◌also◌, object-made}
use Rattle.pmt_explain_json.proofs.summary.asked_value.Goals as goal

pub returns : goal.returns
returns c =
    object-made c.object_made.result _ _ (_ ∷ _ ∷ _ ∷ _ ∷ _ ∷ _ ∷ []) (asked_data c.args.choice.now)
    c.object_made.ensures c.in_ok-fields.ensures.items
    (c.count_or_null.ensures also c.text_or_null-label.ensures also c.kind_or_null-only.ensures also c.range_or_null-range.ensures
    also c.thread_or_null.ensures also c.count_or_null-2.ensures also _)
    (λ d e. e)
