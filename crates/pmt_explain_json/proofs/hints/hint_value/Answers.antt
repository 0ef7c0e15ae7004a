use Rattle.std.proofs.Common.{◌≡◌, [], ◌∷◌, IfOk, subst}
use Rattle.serde_json.specs.Data.{string}
use Rattle.serde_json.specs.View.{view}
use Rattle.pmt_explain_json.specs.Places.{hint_data}
use Rattle.pmt_explain_json.proofs.Making.{◌also◌, object-made}
use Rattle.pmt_explain_json.proofs.hints.hint_value.Goals as goal

pub returns : goal.returns
returns c =
    let named = subst (λ s. IfOk c.try_from_str-name.result (λ v. view v ≡ string s)) c.hint_name.ensures c.try_from_str-name.ensures in
    object-made c.object_made.result _ _
    (_ ∷ _ ∷ _ ∷ _ ∷ _ ∷ _ ∷ _ ∷ [])
    (hint_data c.args.trace.now c.args.labels.now c.args.hint.now)
    c.object_made.ensures c.in_ok-fields.ensures.items
    (c.from.ensures also c.event_value-first.ensures also named also c.try_from_str-kind.ensures
    also c.label_or_null-label.ensures also c.path_or_null-path.ensures also c.thread_or_null.ensures also _)
    (λ d e. e)
