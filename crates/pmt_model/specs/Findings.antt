-- What is found in a trace besides its verdicts (own profile).
use Rattle.std.specs.Prelude.{◌≡◌, ◌≢◌, ℕ, ◌-◌, ◌<◌, ◌≤◌, ◌⊎◌, true, length, List, [], ◌∷◌, ◌==◌, suc, if◌then◌else◌, Option, Some, None}
use Rattle.pmt_model.specs.Values.{Written}
use Rattle.pmt_model.specs.Machine.{Act, Asserts, Stores, Flushes, Clflushes, Fences, writes, State, Ends}
use Rattle.pmt_model.specs.Traces.{Recording, IsAct, history, count_at}

-- Event i is a store to line l, and some run of the whole trace ends without it.
pub record IsNeverPersisted (T : Recording) (l i : ℕ) : Type 0 where
  pub what : Written
  pub is_store : IsAct T i (Stores l what)
  pub end : State
  pub ends : Ends (history T (length T.events)) end
  pub pending : end.persisted l < count_at T l i

-- Event i flushes line l: a flush by any thread, or a clflush.
pub data IsFlushOf (T : Recording) (l i : ℕ) : Type 0 where
  ByFlush : (t : ℕ) → IsAct T i (Flushes t l) → IsFlushOf T l i
  ByClflush : IsAct T i (Clflushes l) → IsFlushOf T l i

-- A flush of line l comes after event i.
abbrev pub IsFlushedAfter : Recording → ℕ → ℕ → Type 0
IsFlushedAfter T l i = (j : ℕ) × (i < j) × IsFlushOf T l j

-- Every run of the first n events ends with store j to line l persisted.
abbrev pub IsSafe : Recording → ℕ → ℕ → ℕ → Type 0
IsSafe T l n j = (s : State) → Ends (history T n) s → count_at T l j ≤ s.persisted l

-- A flush by t of line l stands between store j and event i, with no fence by t from there to event i.
pub record IsCovered (T : Recording) (t l j i : ℕ) : Type 0 where
  pub flush : ℕ
  pub is_flush : IsAct T flush (Flushes t l)
  pub after : j < flush
  pub before : flush < i
  pub unfenced : (k : ℕ) → flush < k → k < i → ¬ IsAct T k (Fences t)

-- The flush by t of line l at i has no store to mark that is not safe already, or marked already by a flush whose fence is to
-- come.
pub record IsRedundantFlush (T : Recording) (t l i : ℕ) : Type 0 where
  pub is_flush : IsAct T i (Flushes t l)
  pub nothing_new : (j : ℕ) (w : Written) → j < i → IsAct T j (Stores l w) → IsSafe T l (i - 1) j ⊎ IsCovered T t l j i

-- The clflush of line l at i has no store to wait for that is not safe already.
pub record IsRedundantClflush (T : Recording) (l i : ℕ) : Type 0 where
  pub is_clflush : IsAct T i (Clflushes l)
  pub nothing_new : (j : ℕ) (w : Written) → j < i → IsAct T j (Stores l w) → IsSafe T l (i - 1) j

-- Store j is the last one before store i to a byte that store i writes, and no flush of the line stands between them.
pub record IsOverwritten (T : Recording) (j i : ℕ) : Type 0 where
  pub line : ℕ
  pub earlier : Written
  pub later : Written
  pub byte : ℕ
  pub is_earlier : IsAct T j (Stores line earlier)
  pub is_later : IsAct T i (Stores line later)
  pub order : j < i
  pub writes_earlier : writes earlier byte ≡ true
  pub writes_later : writes later byte ≡ true
  pub last : (k l : ℕ) (w : Written) → j < k → k < i → IsAct T k (Stores l w) → writes w byte ≢ true
  pub unflushed : (k : ℕ) → j < k → k < i → ¬ IsFlushOf T line k

-- The thread of the fence at i has no flush since its last fence. A clflush is no such flush.
pub record IsEmptyFence (T : Recording) (i : ℕ) : Type 0 where
  pub thread : ℕ
  pub is_fence : IsAct T i (Fences thread)
  pub nothing : (j l : ℕ) → j < i → IsAct T j (Flushes thread l) → (k : ℕ) × (j < k) × (k < i) × IsAct T k (Fences thread)

-- The number of the last store that writes the byte at b. The newest act of a history has the history's length as its number.
abbrev pub last_store_number : ℕ → List Act → Option ℕ
last_store_number b [] = None
last_store_number b (Stores l w ∷ history) = if writes w b then Some (suc (length history)) else last_store_number b history
last_store_number b (Flushes t l ∷ history) = last_store_number b history
last_store_number b (Clflushes l ∷ history) = last_store_number b history
last_store_number b (Fences t ∷ history) = last_store_number b history
last_store_number b (Asserts ∷ history) = last_store_number b history

-- The number of the last flush of line l, or 0.
abbrev pub last_flush : ℕ → List Act → ℕ
last_flush l [] = 0
last_flush l (Stores k w ∷ history) = last_flush l history
last_flush l (Flushes t k ∷ history) = if k == l then suc (length history) else last_flush l history
last_flush l (Clflushes k ∷ history) = if k == l then suc (length history) else last_flush l history
last_flush l (Fences t ∷ history) = last_flush l history
last_flush l (Asserts ∷ history) = last_flush l history

-- Store j is overwritten by store i, by numbers.
pub record OverwritesBefore (T : Recording) (l j i : ℕ) (earlier later : Written) (byte : ℕ) : Type 0 where
  pub is_earlier : IsAct T j (Stores l earlier)
  pub is_later : IsAct T i (Stores l later)
  pub writes_later : writes later byte ≡ true
  pub last : last_store_number byte (history T (i - 1)) ≡ Some j
  pub unflushed : last_flush l (history T (i - 1)) < j
