use Rattle.std.proofs.Common.{◌≡◌, [], ◌∷◌, IfOk, subst, ap, ◌∙◌}
use Rattle.serde_json.specs.Data.{string}
use Rattle.serde_json.specs.View.{view}
use Rattle.pmt_explain_json.specs.Entries.{count_data, event_data, or_null}
use Rattle.pmt_explain_json.specs.Lines.{entry_data, sites_left}
use Rattle.pmt_explain_json.proofs.Making.{◌also◌, object-made}
use Rattle.pmt_explain_json.proofs.weighed.entry_value.Goals as goal

pub returns : goal.returns
returns c =
    let x = c.args.explanation.now in
    let labels = c.args.labels.now in
    let f = c.args.facts.now in
    let first = subst (λ T. IfOk c.event_or_null-first.result (λ v. view v ≡ or_null (event_data T labels) f.first)) c.trace-trace.ensures.value c.event_or_null-first.ensures in
    let more = c.from-4.ensures ∙ ap count_data c.more_sites.ensures in
    let subject = subst (λ s. IfOk c.try_from_str-subject.result (λ v. view v ≡ string s)) c.subject_name.ensures c.try_from_str-subject.ensures in
    let why = subst (λ s. IfOk c.try_from_str-why.result (λ v. view v ≡ string s)) c.why_name.ensures c.try_from_str-why.ensures in
    let word = subst (λ s. IfOk c.try_from_str-word.result (λ v. view v ≡ string s)) c.weight_name.ensures c.try_from_str-word.ensures in
    object-made c.object_made.result _ _
    (_ ∷ _ ∷ _ ∷ _ ∷ _ ∷ count_data (sites_left x.entries c.args.entry.now.subject) ∷ _ ∷ _ ∷ _ ∷ _ ∷ _ ∷ _ ∷ _ ∷ _ ∷ [])
    (entry_data x labels c.args.entry.now f)
    c.object_made.ensures c.in_ok-fields.ensures.items
    (c.from.ensures also c.from-2.ensures also c.from-3.ensures also first also c.try_from_str-kind.ensures also more
    also c.count_or_null.ensures also c.path_or_null-path.ensures also c.from-5.ensures also c.sign_value-sign.ensures also c.sites_value-sites.ensures
    also subject also why also word also _)
    (λ d e. e)
