use Rattle.std.proofs.Common.{◌≡◌, ◌-◌, ℕ, List, length, subst, ap, ◌∙◌}
use Rattle.std.specs.Prelude.{count_by, is_some}
use Rattle.pmt_model.specs.declared.finding.Finding.{Finding}
use Rattle.pmt_model.specs.Traces.{Recording}
use Rattle.pmt_explain.specs.Grouping.{AreLostGroups}
use Rattle.pmt_explanation.specs.Explaining.{lost_store, told_stores, asked_numbers, asked_unwritten}
use Rattle.pmt_asked.specs.declared.choosing.Kind.TheVariants as kinds
use Rattle.pmt_failures.specs.Showing.{unwritten_of}
use Rattle.pmt_explanation.proofs.risks.lost_of.Goals as goal

pub returns : goal.returns
returns c =
    let o = c.args.options.now in
    let labels = c.args.labels.now in
    let a = c.args.analysis.now in
    let losses = c.in_ok-losses.ensures in
    let stores = c.in_ok-stores.stores.items in
    record {
      stores = subst (λ (T : Recording). stores ≡ told_stores T labels o.ignored a.findings) c.trace-trace.ensures.value
          (subst (λ (fs : List Finding). stores ≡ told_stores c.trace-trace.result.now labels o.ignored fs) c.findings-findings.ensures.value c.in_ok-stores.ensures);
      ignored = subst (λ (ks : List ℕ). c.in_ok-losses.losses.ignored ≡ count_by (λ (f : Finding). is_some (lost_store f)) a.findings - length ks) c.as_slice.ensures.value losses.ignored;
      groups = subst (λ (ks : List ℕ). AreLostGroups a.trace (asked_numbers a.trace labels o.choice kinds.NeverPersisted ks) c.in_ok-losses.losses.groups.items) c.as_slice.ensures.value losses.groups;
      causes = losses.causes;
      unwritten = c.in_ok-unwritten.ensures ∙ ap (λ (T : Recording). asked_unwritten T labels o.choice (unwritten_of T)) c.trace-trace.ensures.value;
    }
