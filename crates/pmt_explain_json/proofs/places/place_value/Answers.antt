use Rattle.std.proofs.Common.{◌≡◌, [], ◌∷◌, IfOk, subst}
use Rattle.serde_json.specs.Data.{string}
use Rattle.serde_json.specs.View.{view}
use Rattle.pmt_explain_json.specs.Places.{place_data}
use Rattle.pmt_explain_json.proofs.Making.{◌also◌, object-made}
use Rattle.pmt_explain_json.proofs.places.place_value.Goals as goal

pub returns : goal.returns
returns c =
    let named = subst (λ s. IfOk c.try_from_str-kind.result (λ v. view v ≡ string s)) c.row_kind.ensures c.try_from_str-kind.ensures in
    object-made c.object_made.result _ _
    (_ ∷ _ ∷ _ ∷ _ ∷ _ ∷ _ ∷ _ ∷ _ ∷ _ ∷ _ ∷ _ ∷ _ ∷ _ ∷ _ ∷ _ ∷ _ ∷ _ ∷ _ ∷ [])
    (place_data c.args.trace.now c.args.labels.now c.args.whole c.args.row.now)
    c.object_made.ensures c.in_ok-fields.ensures.items
    (c.from.ensures also c.from-2.ensures also c.event_value-first.ensures also c.event_or_null-first_late.ensures
    also c.event_or_null-first_left.ensures also c.event_or_null-first_lost.ensures also c.from-3.ensures also c.from-4.ensures also c.from-5.ensures also c.from-6.ensures
    also named also c.row_label-label.ensures also c.from-7.ensures also c.from-8.ensures also c.from-9.ensures also c.saved_or_null-saved.ensures also c.from-10.ensures
    also c.thread_or_null.ensures also _)
    (λ d e. e)
