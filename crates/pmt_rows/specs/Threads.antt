-- The threads that have flushed a line since the last store to it.
use Rattle.std.specs.Prelude.{◌≡◌, ℕ, ◌≤◌, ◌⊎◌, ◌==◌, not, nat_le, if◌then◌else◌, Bool, List, length, slice_index, ◌<◌, ◌||◌, false, [], ◌∷◌}
use Rattle.pmt_laws.specs.Prelude.{Written, Act, Stores, Flushes, Clflushes, Fences, Asserts, list_any}
use Rattle.pmt_safety.specs.Safety.{has_flushed}

-- How many threads a list has at most.
abbrev pub few : ℕ
few = 16

abbrev pub in_list : List ℕ → ℕ → Bool
in_list threads t = list_any (λ u. u == t) threads

-- The table has something else than 0 at the thread.
abbrev pub in_table : List ℕ → ℕ → Bool
in_table table t = not (slice_index table t == 0)

-- The thread is one of the set.
abbrev pub has_thread : List ℕ → ℕ → Bool
has_thread held t = if nat_le (length held) few then in_list held t else in_table held t

-- It is a list of few threads, or a table of all.
abbrev pub IsHeld : List ℕ → Type 0
IsHeld held = (length held ≤ few) ⊎ (length held ≡ 256)

-- ---- The threads that have flushed a line since the last store to it, act by act

-- Told of each thread whether it is one of the set, the set is that of line l after the history.
abbrev pub AreFlushers : ℕ → List Act → (ℕ → Bool) → Type 0
AreFlushers l history has = (t : ℕ) → t < 256 → has t ≡ has_flushed t l history

-- A store to the line clears the set, a flush of it adds its thread, and no other act changes it.
pub record FlushersGoOn : Type 0 where
  pub none : (l : ℕ) → AreFlushers l [] (λ t. false)
  pub store : (l : ℕ) (w : Written) (history : List Act) → AreFlushers l (Stores l w ∷ history) (λ t. false)
  pub flush : (t l : ℕ) (history : List Act) (has : ℕ → Bool) → AreFlushers l history has → AreFlushers l (Flushes t l ∷ history) (λ u. (t == u) || has u)
  pub other_store : (k l : ℕ) (w : Written) (history : List Act) (has : ℕ → Bool) → (k ≡ l → ⊥) → AreFlushers l history has → AreFlushers l (Stores k w ∷ history) has
  pub other_flush : (t k l : ℕ) (history : List Act) (has : ℕ → Bool) → (k ≡ l → ⊥) → AreFlushers l history has → AreFlushers l (Flushes t k ∷ history) has
  pub clflush : (k l : ℕ) (history : List Act) (has : ℕ → Bool) → AreFlushers l history has → AreFlushers l (Clflushes k ∷ history) has
  pub fence : (t l : ℕ) (history : List Act) (has : ℕ → Bool) → AreFlushers l history has → AreFlushers l (Fences t ∷ history) has
  pub assertion : (l : ℕ) (history : List Act) (has : ℕ → Bool) → AreFlushers l history has → AreFlushers l (Asserts ∷ history) has
