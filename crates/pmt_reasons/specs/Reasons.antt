-- Why a flush or fence is dropped.
use Rattle.std.specs.Prelude.{◌≡◌, ◌↔◌, ℕ, ◌-◌, ◌<◌, ◌≤◌}
use Rattle.pmt_laws.specs.Prelude.{Act, Flushes, Clflushes, Fences, Recording, IsAct, count_at, front_at, IsKept}
use Rattle.pmt_reasons.specs.declared.reason.Reason.{Reason}
use Rattle.pmt_reasons.specs.declared.reason.Reason.TheVariants.{Safe, Unfenced, Repeated, Overtaken, Empty, Useless}

-- When event i comes, some store to line l is not safe.
abbrev pub IsMarking : Recording → ℕ → ℕ → Type 0
IsMarking T l i = front_at T l (i - 1) < count_at T l i

-- Event j is the next fence of thread t after event i.
pub record IsNextFence (T : Recording) (t i j : ℕ) : Type 0 where
  pub is_fence : IsAct T j (Fences t)
  pub later : i < j
  pub none_before : (k : ℕ) → i < k → k < j → ¬ IsAct T k (Fences t)

-- Event i marks stores, and thread t doesn't fence after it.
pub record IsNeverFenced (T : Recording) (t l i : ℕ) : Type 0 where
  pub marks : IsMarking T l i
  pub never : (k : ℕ) → i < k → ¬ IsAct T k (Fences t)

-- Event i marks stores, and event `by` is the first flush of line l by thread t after it, before the next fence of t.
pub record IsRepeated (T : Recording) (t l i by : ℕ) : Type 0 where
  pub marks : IsMarking T l i
  pub fence : ℕ
  pub next : IsNextFence T t i fence
  pub is_flush : IsAct T by (Flushes t l)
  pub after : i < by
  pub before : by < fence
  pub first : (k : ℕ) → i < k → k < by → ¬ IsAct T k (Flushes t l)

-- Event i marks stores, thread t doesn't flush line l again before its next fence, and before that fence event `by` is the first
-- one that makes all those stores safe.
pub record IsOvertaken (T : Recording) (t l i by : ℕ) : Type 0 where
  pub marks : IsMarking T l i
  pub fence : ℕ
  pub next : IsNextFence T t i fence
  pub last : (k : ℕ) → i < k → k < fence → ¬ IsAct T k (Flushes t l)
  pub after : i < by
  pub before : by < fence
  pub first : front_at T l (by - 1) < count_at T l i
  pub reached : count_at T l i ≤ front_at T l by

-- Why the flush of line l by thread t at i is dropped.
abbrev pub IsFlushReason : Recording → ℕ → ℕ → ℕ → Reason → Type 0
IsFlushReason T t l i Safe = count_at T l i ≤ front_at T l (i - 1)
IsFlushReason T t l i Unfenced = IsNeverFenced T t l i
IsFlushReason T t l i (Repeated by) = IsRepeated T t l i by
IsFlushReason T t l i (Overtaken by) = IsOvertaken T t l i by
IsFlushReason T t l i Empty = ⊥
IsFlushReason T t l i Useless = ⊥

-- Why the clflush of line l at i is dropped.
abbrev pub IsClflushReason : Recording → ℕ → ℕ → Reason → Type 0
IsClflushReason T l i Safe = count_at T l i ≤ front_at T l (i - 1)
IsClflushReason T l i Unfenced = ⊥
IsClflushReason T l i (Repeated by) = ⊥
IsClflushReason T l i (Overtaken by) = ⊥
IsClflushReason T l i Empty = ⊥
IsClflushReason T l i Useless = ⊥

-- Thread t has made a flush since its last fence before event j.
pub record HasFlushed (T : Recording) (t j : ℕ) : Type 0 where
  pub flush : ℕ
  pub line : ℕ
  pub is_flush : IsAct T flush (Flushes t line)
  pub before : flush < j
  pub since : (k : ℕ) → flush < k → k < j → ¬ IsAct T k (Fences t)

-- Thread t has made a flush since its last fence, and event j raises no front.
pub record IsUseless (T : Recording) (t j : ℕ) : Type 0 where
  pub flushed : HasFlushed T t j
  pub raises_none : (l : ℕ) → front_at T l j ≡ front_at T l (j - 1)

-- Why the fence of thread t at j is dropped.
abbrev pub IsFenceReason : Recording → ℕ → ℕ → Reason → Type 0
IsFenceReason T t j Safe = ⊥
IsFenceReason T t j Unfenced = ⊥
IsFenceReason T t j (Repeated by) = ⊥
IsFenceReason T t j (Overtaken by) = ⊥
IsFenceReason T t j Empty = ¬ HasFlushed T t j
IsFenceReason T t j Useless = IsUseless T t j

-- Why event i is dropped.
pub data IsReason (T : Recording) (i : ℕ) (r : Reason) : Type 0 where
  OfFlush : (t l : ℕ) → IsAct T i (Flushes t l) → IsFlushReason T t l i r → IsReason T i r
  OfClflush : (l : ℕ) → IsAct T i (Clflushes l) → IsClflushReason T l i r → IsReason T i r
  OfFence : (t : ℕ) → IsAct T i (Fences t) → IsFenceReason T t i r → IsReason T i r

-- An event is dropped exactly where it has a reason.
abbrev pub ReasonExists : Type 0
ReasonExists = (T : Recording) (i : ℕ) (a : Act) → IsAct T i a → (IsKept T i → ⊥) ↔ ((r : Reason) × IsReason T i r)

-- It has one reason.
abbrev pub ReasonIsUnique : Type 0
ReasonIsUnique = (T : Recording) (i : ℕ) (r s : Reason) → IsReason T i r → IsReason T i s → r ≡ s

-- What overtakes a flush is kept.
abbrev pub OvertakerIsKept : Type 0
OvertakerIsKept = (T : Recording) (i by : ℕ) → IsReason T i (Overtaken by) → IsKept T by
