use Rattle.std.proofs.Common.{◌≡◌, [], ◌∷◌, IfOk, refl, ap, subst, ◌∙◌}
use Rattle.serde_json.specs.Data.{string}
use Rattle.serde_json.specs.View.{view}
use Rattle.pmt_explain_json.specs.Lines.{summary_data}
use Rattle.pmt_explain_json.specs.Entries.{count_data}
use Rattle.pmt_explain_json.proofs.Making.{◌also◌, object-made}
use Rattle.pmt_explain_json.proofs.summary.summary_value.Goals as goal

pub returns : goal.returns
returns c =
    let named = subst (λ s. IfOk c.try_from_str-verdict.result (λ v. view v ≡ string s)) c.verdict_name.ensures c.try_from_str-verdict.ensures in
    object-made c.object_made.result _ _
    (_ ∷ _ ∷ _ ∷ _ ∷ _ ∷ _ ∷ _ ∷ _ ∷ _ ∷ _ ∷ _ ∷ _ ∷ _ ∷ _ ∷ _ ∷ _ ∷ _ ∷ _ ∷ _ ∷ _ ∷ _ ∷ _ ∷ [])
    (summary_data c.args.summary.now c.args.limit c.args.choice.now (view c.args.more) c.args.lacks.now c.args.verdict)
    c.object_made.ensures c.in_ok-fields.ensures.items
    (c.asked_value-asked.ensures also c.from.ensures also c.from-2.ensures also c.from-3.ensures also c.from-4.ensures also c.from-5.ensures
    also c.from-6.ensures also c.from-7.ensures ∙ ap count_data c.per_cent-of_fences.ensures also c.from-8.ensures also c.from-9.ensures
    also c.from-10.ensures ∙ ap count_data c.per_cent-of_flushes.ensures also c.from-11.ensures also c.from-12.ensures
    also c.try_from_str-kind.ensures also c.lacks_value-lacks.ensures also c.from-13.ensures also refl also c.from-14.ensures also c.from-15.ensures also c.from-16.ensures
    also c.from-17.ensures also named also _)
    (λ d e. e)
