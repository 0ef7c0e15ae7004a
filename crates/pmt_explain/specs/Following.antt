-- What comes after each event and each place of a trace, and from when on stores are safe.
use Rattle.std.specs.Prelude.{◌≡◌, ℕ, suc, ◌<◌, ◌≤◌, length, slice_index, ◌==◌, Bool, if◌then◌else◌, List, slice_get, Option, None, Some, nat_lt}
use Rattle.pmt_explain.specs.Prelude.{Flushes, Clflushes, Fences, Recording, IsAct, Written, Stores, Act, Asserts, Event, Op, Store, Clwb, ClflushOpt, Clflush, Sfence, Mfence, IsPersist, IsOrderedBefore, IsFlushOf, event, IsPending}
use Rattle.pmt_explain.specs.declared.ahead.Ahead.{Ahead}
use Rattle.pmt_explain.specs.Numbers.{number_at, Numbers}
use Rattle.pmt_explain.specs.declared.upcoming.NextFences.{NextFences}
use Rattle.pmt_explain.specs.declared.upcoming.Upcoming.{Upcoming}

-- This is the first number below `past` that has the property, or `past` where none has it.
pub record IsFirst (P : ℕ → Type 0) (past first : ℕ) : Type 0 where
  pub within : first ≤ past
  pub has : first < past → P first
  pub none_before : (k : ℕ) → k < first → P k → ⊥

-- One more than the number of the last event.
abbrev pub past_of : Recording → ℕ
past_of T = suc (length T.events)

-- Event k is a fence of thread t after event n.
abbrev pub IsFenceAfter : Recording → ℕ → ℕ → ℕ → Type 0
IsFenceAfter T t n k = (n < k) × IsAct T k (Fences t)

-- Event i flushes line l and is complete by place p: it is a clflush, or its thread has fenced since.
pub data IsCompleteBy (T : Recording) (l i p : ℕ) : Type 0 where
  ByFence : (t fence : ℕ) → IsAct T i (Flushes t l) → IsAct T fence (Fences t) → i < fence → fence ≤ p → IsCompleteBy T l i p
  ByItself : IsAct T i (Clflushes l) → i ≤ p → IsCompleteBy T l i p

-- Some flush of line l after event n is complete by place p.
abbrev pub IsCompletedAfter : Recording → ℕ → ℕ → ℕ → Type 0
IsCompletedAfter T l n p = (i : ℕ) × (n < i) × IsCompleteBy T l i p

-- What comes after place n.
pub record IsAhead (T : Recording) (n : ℕ) (a : Ahead) : Type 0 where
  pub past : a.past ≡ past_of T
  pub threads : length a.fences ≡ 256
  pub fences : (t : ℕ) → t < 256 → IsFirst (IsFenceAfter T t n) (past_of T) (slice_index a.fences t)
  pub completed : (l : ℕ) → IsFirst (IsCompletedAfter T l n) (past_of T) (number_at (past_of T) a.completed l)

-- Store i to line l is persisted at the end of every run to place p or a later one, and p is the first such place; one more than the
-- number of the last event where there is none.
abbrev pub IsSafePlace : Recording → ℕ → ℕ → ℕ → Type 0
IsSafePlace T l i p = IsFirst (λ k. ¬ IsPending T l k i) (past_of T) p

-- This is the safe place of event i, if it is a store.
abbrev pub TellsSafe : Recording → ℕ → ℕ → Type 0
TellsSafe T i p = (l : ℕ) (w : Written) → IsAct T i (Stores l w) → IsSafePlace T l i p

-- The safe places of all events that are stores, the first one being event 1.
pub record AreSafePlaces (T : Recording) (places : List ℕ) : Type 0 where
  pub size : length places ≡ length T.events
  pub each : (n p : ℕ) → slice_get places n ≡ Some p → TellsSafe T (suc n) p

-- The crash at place n, with all stores to the full line, loses store x to line l, which is safe from place s on.
abbrev pub loses : ℕ → Option ℕ → ℕ → ℕ → ℕ → Bool
loses n None l x s = nat_lt n s
loses n (Some full) l x s = if l == full then nat_lt n x else nat_lt n s

-- ---- What comes next after each event

-- Of each event of the trace the next fence of its thread; one more than the last number where there is none.
pub record AreOwnFences (T : Recording) (fences : List ℕ) : Type 0 where
  pub size : length fences ≡ length T.events
  pub each : (n p : ℕ) (e : Event) → slice_get fences n ≡ Some p → event T (suc n) ≡ Some e → IsFirst (IsFenceAfter T e.thread (suc n)) (past_of T) p

-- Event i stores to line l, or flushes it.
pub data IsOn (T : Recording) (l i : ℕ) : Type 0 where
  ByStore : (w : Written) → IsAct T i (Stores l w) → IsOn T l i
  ByFlushOf : IsFlushOf T l i → IsOn T l i

-- This is the first flush of line l after event i; one more than the number of the last event where there is none.
abbrev pub IsNextFlush : Recording → ℕ → ℕ → ℕ → Type 0
IsNextFlush T l i p = IsFirst (λ k. (i < k) × IsFlushOf T l k) (past_of T) p

-- This is the next flush of the line of event i, if it stores to one or flushes one.
abbrev pub TellsNextFlush : Recording → ℕ → ℕ → Type 0
TellsNextFlush T i p = (l : ℕ) → IsOn T l i → IsNextFlush T l i p

-- The next flushes of all events that store to a line or flush one, the first one being event 1.
pub record AreNextFlushes (T : Recording) (list : List ℕ) : Type 0 where
  pub size : length list ≡ length T.events
  pub each : (n p : ℕ) → slice_get list n ≡ Some p → TellsNextFlush T (suc n) p

-- What comes next after each event of the trace.
pub record IsUpcoming (T : Recording) (x : Upcoming) : Type 0 where
  pub fences : AreOwnFences T x.fences.items
  pub flushes : AreNextFlushes T x.flushes.items

-- The next fence of thread t.
abbrev pub fence_of : NextFences → ℕ → ℕ
fence_of fences t = slice_index fences.numbers t

-- The next fence of thread t, once the op with this number by thread u is met.
abbrev pub fence_by : Op → ℕ → ℕ → ℕ → ℕ → ℕ
fence_by (Store w) u number t old = old
fence_by (Clwb a) u number t old = old
fence_by (ClflushOpt a) u number t old = old
fence_by (Clflush a) u number t old = old
fence_by Sfence u number t old = if u == t then number else old
fence_by Mfence u number t old = if u == t then number else old
fence_by (IsPersist r) u number t old = old
fence_by (IsOrderedBefore r q) u number t old = old

-- The next flush of the act's line, if it is a store or a flush.
abbrev pub next_in : ℕ → Numbers → Act → ℕ
next_in past flushes (Stores l w) = number_at past flushes l
next_in past flushes (Flushes t l) = number_at past flushes l
next_in past flushes (Clflushes l) = number_at past flushes l
next_in past flushes (Fences t) = past
next_in past flushes Asserts = past

-- The next flush of line l before the act with this number, by that after it.
abbrev pub next_before : Act → ℕ → ℕ → ℕ → ℕ
next_before (Stores k w) number l after = after
next_before (Flushes t k) number l after = if k == l then number else after
next_before (Clflushes k) number l after = if k == l then number else after
next_before (Fences t) number l after = after
next_before Asserts number l after = after
