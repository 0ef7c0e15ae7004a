use Rattle.std.proofs.Common.{◌≡◌, [], ◌∷◌, map, IfOk, subst}
use Rattle.serde_json.specs.View.{view}
use Rattle.pmt_explain_json.specs.Entries.{failure_data, line_count_data, range_after_data, array_of}
use Rattle.pmt_explain_json.proofs.Making.{◌also◌, object-made}
use Rattle.pmt_explain_json.proofs.failures.failure_value.Goals as goal

pub returns : goal.returns
returns c =
    let T = c.args.trace.now in
    let f = c.args.crash.now in
    let lines = subst (λ ls. IfOk c.lines_value-lines.result (λ v. view v ≡ array_of (map (line_count_data T) ls))) c.as_slice.ensures.value c.lines_value-lines.ensures in
    let ranges = subst (λ rs. IfOk c.ranges_value-ranges.result (λ v. view v ≡ array_of (map range_after_data rs))) c.as_slice-2.ensures.value c.ranges_value-ranges.ensures in
    object-made c.object_made.result _ _
    (_ ∷ _ ∷ _ ∷ _ ∷ array_of (map (line_count_data T) f.lines.items) ∷ _ ∷ _ ∷ _ ∷ _ ∷ array_of (map range_after_data f.ranges.items) ∷ _ ∷ [])
    (failure_data T c.args.labels.now f)
    c.object_made.ensures c.in_ok-fields.ensures.items
    (c.cause_value-cause.ensures also c.event_value-event.ensures also c.kept_value-kept.ensures also c.try_from_str-kind.ensures also lines
    also c.byte_store_value-lost.ensures also c.mend_value-mend.ensures also c.from.ensures also c.from-2.ensures also ranges also c.from-3.ensures also _)
    (λ d e. e)
