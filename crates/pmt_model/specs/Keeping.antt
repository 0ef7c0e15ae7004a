-- What is kept of a trace, and that no fewer events would do.
use Rattle.std.specs.Prelude.{◌≡◌, ◌≢◌, ℕ, ◌-◌, ◌<◌, ◌↔◌, ◌==◌, if◌then◌else◌, true, List, [], ◌∷◌, ◌≤◌, length}
use Rattle.pmt_model.specs.Machine.{Act, Flushes, Clflushes, Fences}
use Rattle.pmt_model.specs.Traces.{Recording, IsAct, count_at, VectorsAt}
use Rattle.pmt_model.specs.Fronts.{front_at}
use Rattle.pmt_model.specs.Selections.{IsRising, Has, always_stays, cut, matching_place}
use Rattle.pmt_model.specs.Findings.{IsRedundantFlush, IsRedundantClflush, IsEmptyFence}

-- A fence that raises the front of some line.
pub record IsUsefulFence (T : Recording) (j : ℕ) : Type 0 where
  pub thread : ℕ
  pub line : ℕ
  pub is_fence : IsAct T j (Fences thread)
  pub raises : front_at T line j ≢ front_at T line (j - 1)

-- A flush that its thread's next fence needs: the thread's last one of that line before that fence, of more stores than the
-- front just before that fence.
pub record IsUsefulFlush (T : Recording) (i : ℕ) : Type 0 where
  pub thread : ℕ
  pub line : ℕ
  pub fence : ℕ
  pub is_flush : IsAct T i (Flushes thread line)
  pub is_fence : IsAct T fence (Fences thread)
  pub later : i < fence
  pub next_fence : (k : ℕ) → i < k → k < fence → ¬ IsAct T k (Fences thread)
  pub last_flush : (k : ℕ) → i < k → k < fence → ¬ IsAct T k (Flushes thread line)
  pub needed : front_at T line (fence - 1) < count_at T line i

-- A clflush that raises the front of its line.
pub record IsUsefulClflush (T : Recording) (i : ℕ) : Type 0 where
  pub line : ℕ
  pub is_clflush : IsAct T i (Clflushes line)
  pub raises : front_at T line i ≢ front_at T line (i - 1)

-- A store, an assertion, or a useful flush or fence.
pub data IsKept (T : Recording) (i : ℕ) : Type 0 where
  Stays : (a : Act) → IsAct T i a → always_stays a ≡ true → IsKept T i
  ByFence : IsUsefulFence T i → IsKept T i
  ByFlush : IsUsefulFlush T i → IsKept T i
  ByClflush : IsUsefulClflush T i → IsKept T i

-- K is the rising list of the events that are kept.
pub record IsKeep (T : Recording) (K : List ℕ) : Type 0 where
  pub rising : IsRising 0 K
  pub just : (i : ℕ) → Has K i ↔ IsKept T i

-- The numbers without k.
abbrev pub without : List ℕ → ℕ → List ℕ
without [] k = []
without (j ∷ js) k = if j == k then without js k else j ∷ without js k

-- At every place of the trace, a crash may leave the same counts of persisted stores as after the selected events so far.
abbrev pub HasSameVectors : Recording → List ℕ → Type 0
HasSameVectors T S = (n : ℕ) → n ≤ length T.events → (v : ℕ → ℕ) → VectorsAt T n v ↔ VectorsAt (cut T S) (matching_place S n) v

-- No flush of the trace is redundant, and each fence has a flush by its thread to wait for.
pub record HasNoWaste (T : Recording) : Type 0 where
  pub flushes : (t l i : ℕ) → ¬ IsRedundantFlush T t l i
  pub clflushes : (l i : ℕ) → ¬ IsRedundantClflush T l i
  pub fences : (i : ℕ) → ¬ IsEmptyFence T i
