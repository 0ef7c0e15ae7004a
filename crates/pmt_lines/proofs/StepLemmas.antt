-- Steps by rising numbers, with one more at the end.
use Rattle.std.proofs.Common.{◌≡◌, ℕ, zero, suc, ◌+◌, ◌<◌, ◌≤◌, List, [], ◌∷◌, ◌++◌, length, Some, refl, sym, ap, arith}
use Rattle.std.specs.Prelude.{slice_get}
use Rattle.std.proofs.lemmas.Option.{none-some, same_Some}
use Rattle.pmt_model.specs.Traces.{event_limit}
use Rattle.pmt_lines.specs.declared.step.StepKind.TheVariants.{Store}
use Rattle.pmt_lines.specs.declared.step.Step.{Step}
use Rattle.pmt_lines.specs.Jobs.{IsStepKind, AreSteps, last_number}

-- a later step keeps the order
pub are_steps-push : (low : ℕ) (steps : List Step) (s : Step) → AreSteps low steps → last_number low steps < s.number → s.number ≤ event_limit → IsStepKind s.kind → AreSteps low (steps ++ s ∷ [])
are_steps-push low [] s are later within kind = (later, within, kind, tt)
are_steps-push low (x ∷ steps) s are later within kind = (are.0, are.1, are.2, are_steps-push x.number steps s are.3 later within kind)

-- it is the last one
pub last_number-push : (low : ℕ) (steps : List Step) (s : Step) → last_number low (steps ++ s ∷ []) ≡ s.number
last_number-push low [] s = refl
last_number-push low (x ∷ steps) s = last_number-push x.number steps s

-- the last number is that of the step in the last place
last_number-at : (low : ℕ) (steps : List Step) (k : ℕ) (s : Step) → suc k ≡ length steps → slice_get steps k ≡ Some s → s.number ≡ last_number low steps
last_number-at low [] k s last is = absurd (none-some s is)
last_number-at low (x ∷ []) zero s last is = ap (λ (y : Step). y.number) (sym (same_Some x s is))
last_number-at low (x ∷ y ∷ steps) zero s last is = absurd (omega arith)
last_number-at low (x ∷ steps) (suc k) s last is = last_number-at x.number steps k s (omega arith) is

pub last_number-from_last : (low : ℕ) (steps : List Step) (k : ℕ) (s : Step) → k + 1 ≡ length steps → slice_get steps k ≡ Some s → s.number ≡ last_number low steps
last_number-from_last low steps k s last is = last_number-at low steps k s (omega arith) is

-- what is read past the end of a list of steps
abbrev pub no_step : Step
no_step = record { number = 0; thread = 0; kind = Store 0 0 }
