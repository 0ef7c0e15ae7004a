-- Which stores are safe, by the numbers of events, and what is found, kept and judged by that.
use Rattle.std.specs.Prelude.{◌≡◌, ℕ, suc, ◌==◌, ◌&&◌, ◌||◌, ◌<◌, ◌≤◌, ◌⊎◌, ◌↔◌, max, not, if◌then◌else◌, Bool, false, List, [], ◌∷◌, length, ◌++◌, true, Some}
use Rattle.pmt_laws.specs.Prelude.{Written, Act, Stores, Flushes, Clflushes, Fences, Asserts, Recording, IsAct, history, IsSafe, IsKept, Span, IsNeverPersisted, IsRedundantFlush, IsRedundantClflush, IsEmptyFence, last_store_number, InSpan, PersistPasses, OrderedPasses}
use Rattle.pmt_laws.specs.Passing.{Flushed, open_flushes}

-- The last store to line l, or 0. The newest act of a history has the history's length as its number.
abbrev pub last_line_store : ℕ → List Act → ℕ
last_line_store l [] = 0
last_line_store l (Stores k w ∷ history) = if k == l then suc (length history) else last_line_store l history
last_line_store l (Flushes t k ∷ history) = last_line_store l history
last_line_store l (Clflushes k ∷ history) = last_line_store l history
last_line_store l (Fences t ∷ history) = last_line_store l history
last_line_store l (Asserts ∷ history) = last_line_store l history

-- The last store to line l that the last flush of it by thread t marks, or 0.
abbrev pub marked_store : ℕ → ℕ → List Act → ℕ
marked_store t l [] = 0
marked_store t l (Stores k w ∷ history) = marked_store t l history
marked_store t l (Flushes u k ∷ history) = if (u == t) && (k == l) then last_line_store l history else marked_store t l history
marked_store t l (Clflushes k ∷ history) = marked_store t l history
marked_store t l (Fences u ∷ history) = marked_store t l history
marked_store t l (Asserts ∷ history) = marked_store t l history

-- The last store to line l that is safe, or 0, event by event. That it is the last safe one at each place of a trace is a law.
abbrev pub safe_store : ℕ → List Act → ℕ
safe_store l [] = 0
safe_store l (Stores k w ∷ history) = safe_store l history
safe_store l (Flushes t k ∷ history) = safe_store l history
safe_store l (Clflushes k ∷ history) = if k == l then last_line_store l history else safe_store l history
safe_store l (Fences t ∷ history) = max (safe_store l history) (marked_store t l history)
safe_store l (Asserts ∷ history) = safe_store l history

-- Thread t has flushed line l since the last store to it.
abbrev pub has_flushed : ℕ → ℕ → List Act → Bool
has_flushed t l [] = false
has_flushed t l (Stores k w ∷ history) = not (k == l) && has_flushed t l history
has_flushed t l (Flushes u k ∷ history) = ((u == t) && (k == l)) || has_flushed t l history
has_flushed t l (Clflushes k ∷ history) = has_flushed t l history
has_flushed t l (Fences u ∷ history) = has_flushed t l history
has_flushed t l (Asserts ∷ history) = has_flushed t l history

-- Thread t has flushed some line since its last fence.
abbrev pub has_open_flush : ℕ → List Act → Bool
has_open_flush t [] = false
has_open_flush t (Stores k w ∷ history) = has_open_flush t history
has_open_flush t (Flushes u k ∷ history) = (u == t) || has_open_flush t history
has_open_flush t (Clflushes k ∷ history) = has_open_flush t history
has_open_flush t (Fences u ∷ history) = not (u == t) && has_open_flush t history
has_open_flush t (Asserts ∷ history) = has_open_flush t history

abbrev pub last_line_store_at : Recording → ℕ → ℕ → ℕ
last_line_store_at T l n = last_line_store l (history T n)

abbrev pub marked_store_at : Recording → ℕ → ℕ → ℕ → ℕ
marked_store_at T t l n = marked_store t l (history T n)

abbrev pub safe_store_at : Recording → ℕ → ℕ → ℕ
safe_store_at T l n = safe_store l (history T n)

-- Of the stores to line l, f is the last one that is safe at place n; it is 0 if none is.
pub record IsLastSafe (T : Recording) (l n f : ℕ) : Type 0 where
  pub reached : (f ≡ 0) ⊎ ((w : Written) × IsAct T f (Stores l w) × IsSafe T l n f)
  pub greatest : (j : ℕ) (w : Written) → IsAct T j (Stores l w) → IsSafe T l n j → j ≤ f

-- A store to a line is safe exactly up to the last safe one.
pub record SafeStoreIsLast : Type 0 where
  pub last : (T : Recording) (l n : ℕ) → IsLastSafe T l n (safe_store_at T l n)
  pub up_to : (T : Recording) (l n j : ℕ) (w : Written) → IsAct T j (Stores l w) → IsSafe T l n j ↔ (j ≤ safe_store_at T l n)

-- Store j to line l is safe at place p, and at no earlier one.
pub record IsSafeFrom (T : Recording) (l j p : ℕ) : Type 0 where
  pub safe : IsSafe T l p j
  pub first : (m : ℕ) → m < p → ¬ IsSafe T l m j

-- A store is safe from the place at which the last safe store passes it, and at all places from there on.
pub record SafeFromIsPassed : Type 0 where
  pub passed : (T : Recording) (l j p : ℕ) (w : Written) → IsAct T j (Stores l w) →
      IsSafeFrom T l j p ↔ ((j ≤ safe_store_at T l p) × ((m : ℕ) → m < p → safe_store_at T l m < j))
  pub from_then : (T : Recording) (l j p n : ℕ) (w : Written) → IsAct T j (Stores l w) → IsSafeFrom T l j p → IsSafe T l n j ↔ (p ≤ n)

-- The store that the flush marks: the last one to its line when it comes, or 0.
abbrev pub store_of : Recording → Flushed → ℕ
store_of T f = last_line_store_at T f.line f.number

-- The last store to line l that one of the flushes marks, or 0.
abbrev pub last_marked : Recording → ℕ → List Flushed → ℕ
last_marked T l [] = 0
last_marked T l (f ∷ flushes) = if f.line == l then max (store_of T f) (last_marked T l flushes) else last_marked T l flushes

-- A fence takes the last safe store of a line to the last one that an open flush of its thread marks, if that is later.
abbrev pub FenceRaisesTo : Type 0
FenceRaisesTo =
    (T : Recording) (t l n : ℕ) → IsAct T (suc n) (Fences t) → safe_store_at T l (suc n) ≡ max (safe_store_at T l n) (last_marked T l (open_flushes t (history T n)))

-- Of its open flushes, those are kept that mark a later store than the last safe one just before the fence and than each newer one does.
abbrev pub FenceKeeps : Type 0
FenceKeeps =
    (T : Recording) (t n : ℕ) (older newer : List Flushed) (f : Flushed) → IsAct T (suc n) (Fences t) → open_flushes t (history T n) ≡ older ++ f ∷ newer →
    IsKept T f.number ↔ (max (safe_store_at T f.line n) (last_marked T f.line newer) < store_of T f)

-- ---- What is found, kept and judged, by the last safe store of each line

-- A store is never persisted in some run exactly if it comes after the last safe one of its line at the end.
abbrev pub NeverPersistedByStores : Type 0
NeverPersistedByStores =
    (T : Recording) (l j : ℕ) (w : Written) → IsAct T j (Stores l w) → IsNeverPersisted T l j ↔ (safe_store_at T l (length T.events) < j)

-- A flush is redundant exactly if the last store to its line is safe, or its thread has flushed the line since that store.
abbrev pub RedundantFlushByStores : Type 0
RedundantFlushByStores =
    (T : Recording) (t l n : ℕ) → IsAct T (suc n) (Flushes t l) →
    IsRedundantFlush T t l (suc n) ↔ ((safe_store_at T l n ≡ last_line_store_at T l n) ⊎ (has_flushed t l (history T n) ≡ true))

-- A clflush is redundant exactly if the last store to its line is safe.
abbrev pub RedundantClflushByStores : Type 0
RedundantClflushByStores =
    (T : Recording) (l n : ℕ) → IsAct T (suc n) (Clflushes l) → IsRedundantClflush T l (suc n) ↔ (safe_store_at T l n ≡ last_line_store_at T l n)

-- A fence comes without flush exactly if its thread has flushed no line since its last fence.
abbrev pub EmptyFenceByFlag : Type 0
EmptyFenceByFlag = (T : Recording) (t n : ℕ) → IsAct T (suc n) (Fences t) → IsEmptyFence T (suc n) ↔ (has_open_flush t (history T n) ≡ false)

-- Of its open flushes, a thread's fence keeps the last one of each line of which it marks a store that is not safe.
pub record KeptFlushByStores : Type 0 where
  pub last : (T : Recording) (t l i n : ℕ) → IsAct T (suc i) (Flushes t l) → IsAct T (suc n) (Fences t) → i < n → ((k : ℕ) → suc i < k → k ≤ n → ¬ IsAct T k (Fences t)) →
      ((k : ℕ) → suc i < k → k ≤ n → ¬ IsAct T k (Flushes t l)) → IsKept T (suc i) ↔ (safe_store_at T l n < last_line_store_at T l i)
  pub others : (T : Recording) (t l i k n : ℕ) → IsAct T i (Flushes t l) → IsAct T k (Flushes t l) → IsAct T n (Fences t) → i < k → k < n →
      ((m : ℕ) → i < m → m < n → ¬ IsAct T m (Fences t)) → ¬ IsKept T i

-- A fence is kept exactly if its thread's last flush of some line marks a store that is not safe.
abbrev pub KeptFenceByStores : Type 0
KeptFenceByStores = (T : Recording) (t n : ℕ) → IsAct T (suc n) (Fences t) → IsKept T (suc n) ↔ ((l : ℕ) × (safe_store_at T l n < marked_store_at T t l n))

-- A clflush is kept exactly if the last store to its line is not safe.
abbrev pub KeptClflushByStores : Type 0
KeptClflushByStores = (T : Recording) (l n : ℕ) → IsAct T (suc n) (Clflushes l) → IsKept T (suc n) ↔ (safe_store_at T l n < last_line_store_at T l n)

-- Store j to line l is the last one of the first n events to some byte of the range.
pub record IsLastIn (T : Recording) (n : ℕ) (A : Span) (l j : ℕ) : Type 0 where
  pub what : Written
  pub is_store : IsAct T j (Stores l what)
  pub byte : ℕ
  pub within : InSpan A byte
  pub last : last_store_number byte (history T n) ≡ Some j

-- isPersist passes exactly if the last store to each byte of the range is safe.
abbrev pub PersistByStores : Type 0
PersistByStores = (T : Recording) (n : ℕ) (A : Span) → PersistPasses (history T n) A ↔ ((l j : ℕ) → IsLastIn T n A l j → j ≤ safe_store_at T l n)

-- isOrderedBefore passes exactly if each last store to a byte of the first range stands before each one to a byte of the second on
-- their line, or is safe at its place.
abbrev pub OrderedByStores : Type 0
OrderedByStores =
    (T : Recording) (n : ℕ) (A B : Span) →
    OrderedPasses (history T n) A B ↔
    ((l j k i : ℕ) → IsLastIn T n A l j → IsLastIn T n B k i → ((l ≡ k) × (j ≤ i)) ⊎ (j ≤ safe_store_at T l i))
