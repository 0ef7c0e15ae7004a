use Rattle.std.proofs.Common.{◌≡◌, take, subst, ap, ◌∙◌}
use Rattle.pmt_model.specs.Traces.{Recording}
use Rattle.pmt_causes.specs.Groups.{AreFailureGroups}
use Rattle.pmt_asked.specs.declared.choosing.Kind.TheVariants as kinds
use Rattle.pmt_explanation.specs.Explaining.{asked_numbers, first_members}
use Rattle.pmt_failures.specs.Showing.{failing_events, AreShown}
use Rattle.pmt_explanation.proofs.risks.broken_of.Goals as goal

pub returns : goal.returns
returns c =
    let o = c.args.options.now in
    let frames = c.args.frames.now in
    let labels = c.args.labels.now in
    let f = c.in_ok-failed.failed in
    let failed = c.in_ok-failed.ensures in
    record {
      failing = failed.failing ∙ ap failing_events c.verdicts-verdicts.ensures.value;
      asked_failing = subst (λ (T : Recording). f.asked.items ≡ asked_numbers T labels o.choice kinds.Failure f.failing.items) c.requires.same failed.asked;
      causes = subst (λ (T : Recording). AreFailureGroups T frames f.asked.items f.causes.items) c.requires.same failed.causes;
      shown = subst (λ (T : Recording). AreShown T (take o.limit (first_members f.causes.items)) f.shown.items) c.requires.same failed.shown;
      overwritten = c.in_ok-overwrites.ensures.groups;
      ignored_pairs = c.in_ok-overwrites.ensures.ignored;
    }
