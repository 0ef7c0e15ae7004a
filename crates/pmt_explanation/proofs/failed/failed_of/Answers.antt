use Rattle.std.proofs.Common.{◌≡◌, List, ℕ, take, subst, ◌∙◌, ap}
use Rattle.pmt_causes.specs.Groups.{AreFailureGroups}
use Rattle.pmt_explanation.specs.Explaining.{asked_numbers, first_members}
use Rattle.pmt_explanation.specs.Prelude.{AreShown, Failure}
use Rattle.pmt_explanation.proofs.failed.failed_of.Goals as goal

pub returns-clause-failing : goal.returns-clause-failing
returns-clause-failing c = c.in_ok-failing.ensures

pub returns-clause-asked : goal.returns-clause-asked
returns-clause-asked c =
    subst (λ T. c.in_ok-asked.asked.items ≡ asked_numbers T c.args.labels.now c.args.options.now.choice Failure c.in_ok-failing.failing.items) c.trace.ensures
    (subst (λ ns. c.in_ok-asked.asked.items ≡ asked_numbers c.trace.result.now c.args.labels.now c.args.options.now.choice Failure ns) c.as_slice.ensures.value c.in_ok-asked.ensures)

pub returns-clause-causes : goal.returns-clause-causes
returns-clause-causes c = subst (λ ns. AreFailureGroups c.args.safe.now.trace.now c.args.frames.now ns c.in_ok-causes.causes.items) c.as_slice-2.ensures.value c.in_ok-causes.ensures

pub returns-clause-shown : goal.returns-clause-shown
returns-clause-shown c =
    let firsts : c.as_slice-4.result.now ≡ first_members c.in_ok-causes.causes.items = c.as_slice-4.ensures.value ∙ c.in_ok-firsts.ensures ∙ ap first_members c.as_slice-3.ensures.value in
    let few : c.first-few.result.now ≡ take c.args.options.now.limit (first_members c.in_ok-causes.causes.items) = c.first-few.ensures ∙ ap (λ (ns : List ℕ). take c.args.options.now.limit ns) firsts in
    subst (λ (ns : List ℕ). AreShown c.args.safe.now.trace.now ns c.in_ok-shown.shown.items) few c.in_ok-shown.ensures
