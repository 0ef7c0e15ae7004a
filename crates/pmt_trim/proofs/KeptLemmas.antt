-- The kept numbers of a line, as the pass back finds them: the last one first.
use Rattle.std.proofs.Common.{◌≡◌, ℕ, ◌-◌, ◌<◌, Bool, List, length, get_or, take, reverse, sym, ap, subst, ◌∙◌, Some}
use Rattle.std.specs.Prelude.{slice_get}
use Rattle.std.proofs.lemmas.Option.{slice_get-get_or}
use Rattle.pmt_model.specs.Traces.{Recording}
use Rattle.pmt_lines.specs.Jobs.{Raise, LineWork, last_number, IsJobOf}
use Rattle.pmt_lines.specs.declared.step.Step.{Step}
use Rattle.pmt_trim.specs.Kept.{IsJobKept}
use Rattle.pmt_trim.proofs.BackLemmas.{IsPassed, passed-all}

-- What is found once the steps from place i on are passed.
abbrev pub IsKeptBack : LineWork → ℕ → List Raise → List Bool → List ℕ → Type 0
IsKeptBack job i raises waiting kept = (T : Recording) → IsJobOf T job.line job.steps → IsPassed T job.line (last_number 0 (take i job.steps)) raises waiting (reverse kept)

-- the step that is read at a place
pub step-at : (job : LineWork) (steps : List Step) (i : ℕ) (read s : Step) → steps ≡ job.steps → i - 1 < length steps → s ≡ get_or steps (i - 1) read → slice_get job.steps (i - 1) ≡ Some s
step-at job steps i read s steps_are within is = ap (λ ss. slice_get ss (i - 1)) (sym steps_are) ∙ slice_get-get_or steps (i - 1) read within ∙ ap Some (sym is)

-- all steps are passed
pub all-kept : (job : LineWork) (i : ℕ) (raises : List Raise) (waiting : List Bool) (kept : List ℕ) → i ≡ 0 → IsKeptBack job i raises waiting kept → IsJobKept job (reverse kept)
all-kept job i raises waiting kept start back T is =
    let P : ℕ → Type 0 = λ k. IsPassed T job.line (last_number 0 (take k job.steps)) raises waiting (reverse kept) in
    passed-all T job.line raises waiting (reverse kept) (subst P start (back T is))
