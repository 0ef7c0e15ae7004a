-- What a sweep knows of the events that it has taken, and which of them are kept.
use Rattle.std.specs.Prelude.{◌≡◌, ℕ, ◌⊎◌, ◌↔◌, Bool, true, List, map, suc, ◌≤◌, length, []}
use Rattle.pmt_laws.specs.Prelude.{Recording, history, Has, IsKept}
use Rattle.pmt_laws.specs.Passing.{Flushed, open_flushes}
use Rattle.pmt_tables.specs.Flags.{is_kept_at}
use Rattle.pmt_sweep.specs.Known.{IsKnownOf}
use Rattle.pmt_sweep.specs.Judged.{AreOldestOf}
use Rattle.pmt_sweep.specs.declared.sweeping.Sweeper.{Sweeper}
use Rattle.pmt_sweep.specs.Found.{AreKnownTo, AreVerdictsTo}

-- The numbers of the flushes by thread t since its last fence, after the first n events.
abbrev pub open_numbers : Recording → ℕ → ℕ → List ℕ
open_numbers T n t = map (λ (f : Flushed). f.number) (open_flushes t (history T n))

-- Of these flushes those that are kept are flagged besides.
abbrev pub FlagsKept : Recording → ℕ → ℕ → List Bool → List Bool → Type 0
FlagsKept T n t old new = (k : ℕ) → (is_kept_at new k ≡ true) ↔ ((is_kept_at old k ≡ true) ⊎ (Has (open_numbers T n t) k × IsKept T k))

-- ---- Which of the events that have come are kept

abbrev pub number_in : Flushed → ℕ
number_in f = f.number

-- Event k is a flush whose thread has not fenced since, after the first n events.
abbrev pub IsOpenAt : Recording → ℕ → ℕ → Type 0
IsOpenAt T n k = (t : ℕ) × Has (map number_in (open_flushes t (history T n))) k

-- Of the first n events those are flagged that are kept, and not open after the first m.
abbrev pub AreFlagged : Recording → ℕ → ℕ → List Bool → Type 0
AreFlagged T n m flags = (k : ℕ) → (is_kept_at flags k ≡ true) ↔ ((k ≤ n) × IsKept T k × ¬ IsOpenAt T m k)

-- A flag for each of the first n events.
pub record AreFlagsTo (T : Recording) (n : ℕ) (flags : List Bool) : Type 0 where
  pub all : length flags ≡ n
  pub just : AreFlagged T n n flags

-- The next event is a fence that has decided its flushes, and they are told already.
pub record AreFlagsPast (T : Recording) (n : ℕ) (flags : List Bool) : Type 0 where
  pub all : length flags ≡ n
  pub just : AreFlagged T n (suc n) flags

-- It has taken the first n events of the trace, and no others.
pub record IsPassOf (T : Recording) (n : ℕ) (s : Sweeper) : Type 0 where
  pub format : s.format ≡ T.format
  pub known : IsKnownOf T n s.known
  pub oldest : AreOldestOf T n s.oldest.found.items
  pub found : AreKnownTo T n s.found.items
  pub over : s.over.items ≡ []
  pub kept : AreFlagsTo T n s.kept.items
  pub verdicts : AreVerdictsTo T n s.verdicts.items

-- It has taken all events of the trace.
abbrev pub HasSwept : Recording → Sweeper → Type 0
HasSwept T s = IsPassOf T (length T.events) s
