use Rattle.std.proofs.Common.{◌≡◌, [], ◌∷◌, length, IfOk, subst, ap, ◌∙◌}
use Rattle.serde_json.specs.View.{view}
use Rattle.pmt_explain_json.specs.Entries.{count_data, event_data}
use Rattle.pmt_explain_json.specs.Lines.{late_data}
use Rattle.pmt_explain_json.proofs.Making.{◌also◌, object-made}
use Rattle.pmt_explain_json.proofs.tables.late_value.Goals as goal

pub returns : goal.returns
returns c =
    let T = c.args.trace.now in
    let labels = c.args.labels.now in
    let g = c.args.group.now in
    let count = c.from.ensures ∙ ap count_data c.len.ensures.value in
    let earliest = subst (λ n. IfOk c.event_value-earliest.result (λ v. view v ≡ event_data T labels n)) c.first_of.ensures c.event_value-earliest.ensures in
    object-made c.object_made.result _ _ (_ ∷ count_data (length g.members.items) ∷ _ ∷ _ ∷ _ ∷ []) (late_data T labels g)
    c.object_made.ensures c.in_ok-fields.ensures.items
    (c.spot_line_value-line.ensures also count also earliest also c.try_from_str-kind.ensures also c.spot_label_value-label.ensures also _)
    (λ d e. e)
