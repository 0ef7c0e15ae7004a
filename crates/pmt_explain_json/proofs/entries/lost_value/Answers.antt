use Rattle.std.proofs.Common.{◌≡◌, [], ◌∷◌, IfOk, subst}
use Rattle.serde_json.specs.View.{view}
use Rattle.pmt_explain_json.specs.Entries.{lost_data, mend_data}
use Rattle.pmt_explain_json.proofs.Making.{◌also◌, object-made}
use Rattle.pmt_explain_json.proofs.entries.lost_value.Goals as goal

pub returns : goal.returns
returns c =
    let mend = subst (λ m. IfOk c.mend_value-mend.result (λ v. view v ≡ mend_data c.args.trace.now m)) c.mend_for-mend.ensures c.mend_value-mend.ensures in
    object-made c.object_made.result _ _ (_ ∷ _ ∷ _ ∷ _ ∷ _ ∷ _ ∷ _ ∷ []) (lost_data c.args.trace.now c.args.labels.now c.args.group.now)
    c.object_made.ensures c.in_ok-fields.ensures.items
    (c.line_value-line.ensures also c.cause_value-cause.ensures also c.from.ensures also c.event_value-first.ensures
    also c.try_from_str-kind.ensures also c.event_value-last.ensures also mend also _)
    (λ d e. e)
