use Rattle.std.proofs.Common.{arith, rules, ◌≡◌, ℕ, ◌<◌, ◌+◌, List, [], ◌∷◌, ◌++◌, length, take, get_or, Some, None, Option, subst, sym}
use Rattle.std.proofs.lemmas.Grind.{elements}
use Rattle.std.specs.Prelude.{MatchOption}
use Rattle.std.proofs.lemmas.List.{take_more}
use Rattle.pmt_reasons.specs.Failures.{IsFailureAt}
use Rattle.pmt_failures.specs.declared.failures.ShownFailure.{ShownFailure}
use Rattle.pmt_failures.specs.Showing.{AreShown, IsShown}
use Rattle.pmt_failures.proofs.ShowingLemmas.{shown-more, shown-passing}
use Rattle.pmt_failures.proofs.failures.shown_failures.Goals as goal
use Rattle.pmt_failures.proofs.failures.shown_failures.Goals.{in-Some+in_ok-push, in_default}

pub loop-number-preserved : goal.loop-number-preserved
loop-number-preserved c =
    let T = c.args.safe.now.trace.now in
    let i = c.loop-number.number-index in
    let few : List ℕ = c.args.failing.now in
    let n : ℕ = get_or few i 0 in
    let older = c.loop-number.shown.items in
    let within : i < length few = search rules in
    let numbers : take (i + 1) few ≡ take i few ++ n ∷ [] = take_more few i 0 within in
    let told : MatchOption c.in_ok-found.field-0 (IsFailureAt T n None) (λ (s : ShownFailure). IsShown T s × (s.event ≡ n)) = search rules in
    let at : Option ShownFailure → Type 0 = λ (o : Option ShownFailure). MatchOption o (IsFailureAt T n None) (λ (s : ShownFailure). IsShown T s × (s.event ≡ n)) in
    subst (λ (ns : List ℕ). AreShown T ns c.match-branch-2.shown.items) (sym numbers) (elim c.match-branch-2.branch [
      | in-Some+in_ok-push w ↦
          let here : at (Some w.in-Some.found) = subst at w.in-Some.is told in
          let more : c.match-branch-2.shown.items ≡ older ++ w.in-Some.found ∷ [] = search rules in
          shown-more T (take i few) older c.match-branch-2.shown.items n w.in-Some.found c.loop-number.invariant here.0 here.1 more
      | in_default w ↦
          let here : at None = subst at w.in_default.is told in
          let same : older ≡ c.match-branch-2.shown.items = search rules in
          subst (AreShown T (take i few ++ n ∷ [])) same (shown-passing T (take i few) older n c.loop-number.invariant here)
    ])

pub loop-number-init : goal.loop-number-init
loop-number-init c = grind (arith, elements)

pub returns-in_err-found : goal.returns-in_err-found
returns-in_err-found c = grind (arith, elements)

pub returns : goal.returns
returns c = grind (arith, elements)
