-- The steps of jobs that are cut in two.
use Rattle.std.proofs.Common.{◌≡◌, ℕ, ◌+◌, ◌-◌, ◌<◌, ◌≤◌, List, [], ◌∷◌, ◌++◌, length, take, drop, get_or, arith, ap, ◌⊎◌, inl, inr}
use Rattle.std.proofs.lemmas.Bool.{cases_lt}
use Rattle.std.proofs.lemmas.List.{take_more, take-append-drop}
use Rattle.pmt_model.specs.Traces.{event_limit}
use Rattle.pmt_lines.specs.declared.step.Step.{Step}
use Rattle.pmt_lines.specs.Jobs.{LineWork, AreSteps}
use Rattle.pmt_workers.specs.Answering.{steps_of, apart}

-- The steps of jobs one after another.
pub steps_of-append : (js ks : List LineWork) → steps_of (js ++ ks) ≡ steps_of js + steps_of ks
steps_of-append [] ks = omega arith
steps_of-append (j ∷ js) ks = omega (arith, steps_of-append js ks)

-- One more job.
pub steps_of-more : (jobs : List LineWork) (i : ℕ) (d : LineWork) → i < length jobs → steps_of (take (i + 1) jobs) ≡ steps_of (take i jobs) + length (get_or jobs i d).steps
steps_of-more jobs i d h = rw (take_more jobs i d h) (omega (arith, steps_of-append (take i jobs) (get_or jobs i d ∷ [])))

-- The two parts have the steps of all.
pub steps_of-parts : (jobs : List LineWork) (n : ℕ) → steps_of (take n jobs) + steps_of (drop n jobs) ≡ steps_of jobs
steps_of-parts jobs n = omega (arith, steps_of-append (take n jobs) (drop n jobs), ap steps_of (take-append-drop n jobs))

-- A list of steps is no longer than a trace.
pub steps-few : (low : ℕ) (steps : List Step) → AreSteps low steps → low ≤ event_limit → length steps + low ≤ event_limit
steps-few low [] are h = omega arith
steps-few low (s ∷ steps) are h = omega (arith, steps-few s.number steps are.3 are.1, are.0)

-- Of the cuts so far this is the best one.
pub record IsBestSoFar (jobs : List LineWork) (i front best least : ℕ) : Type 0 where
  pub so_far : front ≡ steps_of (take i jobs)
  pub within : best ≤ i
  pub gap : least ≡ apart (steps_of (take best jobs)) (steps_of (drop best jobs))
  pub fair : (n : ℕ) → n ≤ i → least ≤ apart (steps_of (take n jobs)) (steps_of (drop n jobs))

-- The gap at the cut after one more job.
gap_here : (jobs : List LineWork) (i front total here : ℕ) → front ≡ steps_of (take i jobs) → total ≡ steps_of jobs → here ≡ apart front (total - front) → here ≡ apart (steps_of (take i jobs)) (steps_of (drop i jobs))
gap_here jobs i front total here so_far all gap = omega (arith, steps_of-parts jobs i)

-- The next cut is the best one so far.
pub better : (jobs : List LineWork) (i front best least total here : ℕ) → IsBestSoFar jobs i front best least → (next : ℕ) → next ≡ steps_of (take (i + 1) jobs) → total ≡ steps_of jobs → here ≡ apart next (total - next) → here < least → IsBestSoFar jobs (i + 1) next (i + 1) here
better jobs i front best least total here old next so_far all gap lower = record {
  so_far = so_far;
  within = omega arith;
  gap = gap_here jobs (i + 1) next total here so_far all gap;
  fair = λ n h. at_most n h (cases_lt i n);
} where
  at_most : (n : ℕ) → n ≤ i + 1 → (i < n) ⊎ (n ≤ i) → here ≤ apart (steps_of (take n jobs)) (steps_of (drop n jobs))
  at_most n h (inr before) = omega (arith, old.fair n before)
  at_most n h (inl after) =
      let last : n ≡ i + 1 = omega arith in
      let e : here ≡ apart (steps_of (take n jobs)) (steps_of (drop n jobs)) = rw last (gap_here jobs (i + 1) next total here so_far all gap) in
      omega arith

-- The best cut stays the best one.
pub no_better : (jobs : List LineWork) (i front best least total here : ℕ) → IsBestSoFar jobs i front best least → (next : ℕ) → next ≡ steps_of (take (i + 1) jobs) → total ≡ steps_of jobs → here ≡ apart next (total - next) → least ≤ here → IsBestSoFar jobs (i + 1) next best least
no_better jobs i front best least total here old next so_far all gap higher = record {
  so_far = so_far;
  within = omega (arith, old.within);
  gap = old.gap;
  fair = λ n h. at_most n h (cases_lt i n);
} where
  at_most : (n : ℕ) → n ≤ i + 1 → (i < n) ⊎ (n ≤ i) → least ≤ apart (steps_of (take n jobs)) (steps_of (drop n jobs))
  at_most n h (inr before) = old.fair n before
  at_most n h (inl after) =
      let last : n ≡ i + 1 = omega arith in
      let e : here ≡ apart (steps_of (take n jobs)) (steps_of (drop n jobs)) = rw last (gap_here jobs (i + 1) next total here so_far all gap) in
      omega arith
