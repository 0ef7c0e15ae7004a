-- What is kept for each line, and how it is found from the line's last step to its first.
use Rattle.std.specs.Prelude.{◌≡◌, ◌≢◌, ℕ, ◌-◌, ◌↔◌, List, [], ◌∷◌, length, Bool, false, ◌++◌, slice_index_or, slice_set}
use Rattle.pmt_laws.specs.Prelude.{Fences, Recording, IsAct, history, lines_of, front_at, IsRising, Has, IsUsefulFlush, IsUsefulClflush}
use Rattle.pmt_lines.specs.Jobs.{LineWork, IsJobOf, Raise}
use Rattle.pmt_lines.specs.declared.step.StepKind.{StepKind}
use Rattle.pmt_lines.specs.declared.step.StepKind.TheVariants.{Store, Flush, Clflush, Fence}

-- Event n is kept for line l: a useful flush or clflush of it, or a fence that raises its front.
pub data IsKeptFor (T : Recording) (l n : ℕ) : Type 0 where
  ByFlush : (useful : IsUsefulFlush T n) → useful.line ≡ l → IsKeptFor T l n
  ByClflush : (useful : IsUsefulClflush T n) → useful.line ≡ l → IsKeptFor T l n
  ByFence : (t : ℕ) → IsAct T n (Fences t) → front_at T l n ≢ front_at T l (n - 1) → IsKeptFor T l n

-- The rising numbers of the events that are kept for line l, and no others.
pub record IsLineKept (T : Recording) (l : ℕ) (kept : List ℕ) : Type 0 where
  pub rising : IsRising 0 kept
  pub just : (n : ℕ) → Has kept n ↔ IsKeptFor T l n

-- These are the numbers that are kept for the line of the job, in whatever trace it is that line's.
abbrev pub IsJobKept : LineWork → List ℕ → Type 0
IsJobKept job kept = (T : Recording) → IsJobOf T job.line job.steps → IsLineKept T job.line kept

-- Such a list for each of these lines, in their order.
abbrev pub AreLinesKept : Recording → List ℕ → List (List ℕ) → Type 0
AreLinesKept T [] [] = Unit {0}
AreLinesKept T [] (kept ∷ lists) = ⊥
AreLinesKept T (l ∷ lines) [] = ⊥
AreLinesKept T (l ∷ lines) (kept ∷ lists) = IsLineKept T l kept × AreLinesKept T lines lists

-- Such a list for each line of the trace that is stored or flushed, in order of first appearance.
abbrev pub AreAllKept : Recording → List (List ℕ) → Type 0
AreAllKept T lists = AreLinesKept T (lines_of (history T (length T.events))) lists

-- ---- What one step says when the steps of a line are read from the last to the first. A thread waits where its next step is a fence
-- that raises the front of the line.

-- Whether the step by thread t is kept: a flush where the thread waits, a clflush or a fence where it raises the front.
abbrev pub is_kept : StepKind → ℕ → Bool → List Bool → Bool
is_kept (Store addr len) t rises waiting = false
is_kept Flush t rises waiting = slice_index_or waiting t false
is_kept Clflush t rises waiting = rises
is_kept Fence t rises waiting = rises

-- Which threads wait, seen from before the step.
abbrev pub waiting_before : StepKind → ℕ → Bool → List Bool → List Bool
waiting_before (Store addr len) t rises waiting = waiting
waiting_before Flush t rises waiting = slice_set waiting t false
waiting_before Clflush t rises waiting = waiting
waiting_before Fence t rises waiting = slice_set waiting t rises

-- The last raise is at this place, and these are the ones before it.
abbrev pub LastIsAt : List Raise → ℕ → List Raise → Type 0
LastIsAt raises place before = (r : Raise) × (raises ≡ before ++ r ∷ []) × (r.0 ≡ place)

-- The last raise, if there is one, is at another place.
abbrev pub LastIsElsewhere : List Raise → ℕ → Type 0
LastIsElsewhere raises place = (before : List Raise) (r : Raise) → raises ≡ before ++ r ∷ [] → r.0 ≢ place
