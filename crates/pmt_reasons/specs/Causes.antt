-- Why a store is not safe at a place, and how that is found event by event.
use Rattle.std.specs.Prelude.{◌≡◌, ◌↔◌, ℕ, ◌<◌, ◌≤◌, Option, None, Some, Bool, true, false, if◌then◌else◌, ◌==◌, List, slice_index_or, slice_set}
use Rattle.pmt_laws.specs.Prelude.{Written, Stores, Flushes, Clflushes, Fences, State, Ends, Recording, IsAct, history, count_at, front_at, IsFlushOf, Act, Asserts}
use Rattle.pmt_reasons.specs.declared.cause.Cause.{Cause}
use Rattle.pmt_reasons.specs.declared.cause.Cause.TheVariants.{Later, Unflushed, Unfenced}

-- Some run of the first n events ends without store i to line l.
pub record IsPending (T : Recording) (l n i : ℕ) : Type 0 where
  pub end : State
  pub ends : Ends (history T n) end
  pub missing : end.persisted l < count_at T l i

-- No flush of line l stands among the events after event i up to n.
abbrev pub IsUnflushed : Recording → ℕ → ℕ → ℕ → Type 0
IsUnflushed T l i n = (k : ℕ) → i < k → k ≤ n → ¬ IsFlushOf T l k

-- Event j is the first fence after event i, and stands among those up to n.
pub record IsFirstFenceAt (T : Recording) (i n j : ℕ) : Type 0 where
  pub thread : ℕ
  pub is_fence : IsAct T j (Fences thread)
  pub after : i < j
  pub by_now : j ≤ n
  pub none_before : (k t : ℕ) → i < k → k < j → ¬ IsAct T k (Fences t)

-- The first fence after event i up to n, if there is one.
abbrev pub IsFirstFence : Recording → ℕ → ℕ → Option ℕ → Type 0
IsFirstFence T i n None = (k t : ℕ) → i < k → k ≤ n → ¬ IsAct T k (Fences t)
IsFirstFence T i n (Some j) = IsFirstFenceAt T i n j

-- Among the events after event i up to n stand flushes of line l, the first of them event `flush` by this thread. None is a
-- clflush, none of their threads has fenced from its flush to n, and `other` is the first fence after that first flush.
pub record IsUnfenced (T : Recording) (l i n flush thread : ℕ) (other : Option ℕ) : Type 0 where
  pub is_flush : IsAct T flush (Flushes thread l)
  pub after : i < flush
  pub by_now : flush ≤ n
  pub first : (k : ℕ) → i < k → k < flush → ¬ IsFlushOf T l k
  pub no_clflush : (k : ℕ) → i < k → k ≤ n → ¬ IsAct T k (Clflushes l)
  pub unfenced : (t j k : ℕ) → i < j → j < k → k ≤ n → IsAct T j (Flushes t l) → ¬ IsAct T k (Fences t)
  pub first_fence : IsFirstFence T flush n other

-- Why store i to line l is not safe at place n.
abbrev pub IsCause : Recording → ℕ → ℕ → ℕ → Cause → Type 0
IsCause T l n i Later = n < i
IsCause T l n i Unflushed = (i ≤ n) × IsUnflushed T l i n
IsCause T l n i (Unfenced flush thread other) = (i ≤ n) × IsUnfenced T l i n flush thread other

-- A store is pending exactly where it has a cause.
abbrev pub CauseExists : Type 0
CauseExists = (T : Recording) (l n i : ℕ) (w : Written) → IsAct T i (Stores l w) → IsPending T l n i ↔ ((c : Cause) × IsCause T l n i c)

-- It has one cause.
abbrev pub CauseIsUnique : Type 0
CauseIsUnique = (T : Recording) (l n i : ℕ) (c d : Cause) → IsCause T l n i c → IsCause T l n i d → c ≡ d

-- A store is pending exactly where its rank is above the front.
abbrev pub PendingByFronts : Type 0
PendingByFronts = (T : Recording) (l n i : ℕ) → IsPending T l n i ↔ (front_at T l n < count_at T l i)

-- ---- The cause of a store, event by event

-- The first fence, with one more fence, which has this number.
abbrev pub with_first : ℕ → Option ℕ → Option ℕ
with_first number None = Some number
with_first number (Some j) = Some j

-- The cause after one more flush of the line, by this thread and with this number.
abbrev pub with_flush : ℕ → ℕ → Cause → Cause
with_flush number thread Later = Later
with_flush number thread Unflushed = Unfenced number thread None
with_flush number thread (Unfenced flush first other) = Unfenced flush first other

-- The cause after one more fence, which has this number.
abbrev pub with_fence : ℕ → Cause → Cause
with_fence number Later = Later
with_fence number Unflushed = Unflushed
with_fence number (Unfenced flush thread other) = Unfenced flush thread (with_first number other)

-- The cause after one more event, which has this number, where `flushed` marks the threads that have flushed the line; none where
-- the event makes the store safe.
abbrev pub cause_after : ℕ → ℕ → Act → List Bool → Cause → Option Cause
cause_after line number (Stores k w) flushed c = Some c
cause_after line number (Flushes t k) flushed c = if k == line then Some (with_flush number t c) else Some c
cause_after line number (Clflushes k) flushed c = if k == line then None else Some c
cause_after line number (Fences t) flushed c = if slice_index_or flushed t false then None else Some (with_fence number c)
cause_after line number Asserts flushed c = Some c

-- The threads that have flushed the line, after one more event.
abbrev pub flushed_after : ℕ → Act → List Bool → List Bool
flushed_after line (Stores k w) flushed = flushed
flushed_after line (Flushes t k) flushed = if k == line then slice_set flushed t true else flushed
flushed_after line (Clflushes k) flushed = flushed
flushed_after line (Fences t) flushed = flushed
flushed_after line Asserts flushed = flushed
