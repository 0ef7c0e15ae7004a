use Rattle.std.proofs.Common.{◌≡◌, ℕ, List, [], ◌∷◌, length, map, IfOk, subst, ap, ◌∙◌}
use Rattle.serde_json.specs.Data.{string}
use Rattle.serde_json.specs.View.{view}
use Rattle.pmt_explain_json.specs.Places.{cause_group_data}
use Rattle.pmt_explain_json.specs.Entries.{array_of, count_data}
use Rattle.pmt_explain_json.proofs.Making.{◌also◌, object-made}
use Rattle.pmt_explain_json.proofs.causes.cause_group_value.Goals as goal

pub returns : goal.returns
returns c =
    let g = c.args.group.now in
    let count = c.from.ensures ∙ ap count_data c.len.ensures.value in
    let events = subst (λ (ns : List ℕ). IfOk c.numbers_value-events.result (λ v. view v ≡ array_of (map count_data ns))) c.as_slice.ensures c.numbers_value-events.ensures in
    let why = subst (λ s. IfOk c.try_from_str-why.result (λ v. view v ≡ string s)) c.cause_name.ensures c.try_from_str-why.ensures in
    object-made c.object_made.result _ _
    (_ ∷ count_data (length g.members.items) ∷ array_of (map count_data g.members.items) ∷ _ ∷ _ ∷ _ ∷ _ ∷ [])
    (cause_group_data c.args.labels.now g)
    c.object_made.ensures c.in_ok-fields.ensures.items
    (c.assertion_value-assertion.ensures also count also events also c.try_from_str-kind.ensures also c.label_or_null-label.ensures
    also c.thread_or_null.ensures also why also _)
    (λ d e. e)
