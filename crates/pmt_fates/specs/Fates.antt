-- What becomes of each event, and what a crash keeps without a store that is saved one fence late.
use Rattle.std.specs.Prelude.{◌≡◌, ℕ, suc, ◌==◌, Bool, if◌then◌else◌, nat_lt, nat_le, List, length, Some, slice_get, slice_index, zero, true, slice_set, ◌<◌, ◌≤◌, ◌⊎◌, Option, None, unwrap_or}
use Rattle.pmt_laws.specs.Prelude.{Event, Op, Store, Clwb, ClflushOpt, Clflush, Sfence, Mfence, IsPersist, IsOrderedBefore, Recording, event, list_any, Written, Stores, IsAct}
use Rattle.pmt_explain.specs.Following.{AreSafePlaces, IsFenceAfter, IsFirst, past_of, IsSafePlace}
use Rattle.pmt_causes.specs.Late.{AreWaited}
use Rattle.pmt_fates.specs.declared.fate.Fate.{Fate}
use Rattle.pmt_fates.specs.declared.saved_before.SavedBefore.{SavedBefore}
use Rattle.pmt_fates.specs.declared.saved_before.Savings.{Savings}
use Rattle.pmt_fates.specs.declared.fate.Fate.TheVariants as fate

-- The number stands in the list.
abbrev pub is_listed : List ℕ → ℕ → Bool
is_listed numbers i = list_any (λ (n : ℕ). n == i) numbers

-- What becomes of a store of a trace with so many events: it is told as never persisted; or it is safe from no place of the trace on,
-- and left out; or it is safe after two fences or more of its thread; or after one; or sooner.
abbrev pub store_fate : Bool → ℕ → ℕ → ℕ → Fate
store_fate is_told events safe waited = if is_told then fate.Lost else if nat_lt events safe then fate.Ignored else if nat_le 2 waited then fate.Late else if nat_le 1 waited then fate.Left else fate.InTime

-- What becomes of a flush and of a fence: it does nothing, if it is dropped.
abbrev pub flush_fate : Bool → Fate
flush_fate is_dropped = if is_dropped then fate.IdleFlush else fate.Flush

abbrev pub fence_fate : Bool → Fate
fence_fate is_dropped = if is_dropped then fate.IdleFence else fate.Fence

abbrev pub op_fate : Op → Bool → Bool → ℕ → ℕ → ℕ → Fate
op_fate (Store w) is_told is_dropped events safe waited = store_fate is_told events safe waited
op_fate (Clwb a) is_told is_dropped events safe waited = flush_fate is_dropped
op_fate (ClflushOpt a) is_told is_dropped events safe waited = flush_fate is_dropped
op_fate (Clflush a) is_told is_dropped events safe waited = flush_fate is_dropped
op_fate Sfence is_told is_dropped events safe waited = fence_fate is_dropped
op_fate Mfence is_told is_dropped events safe waited = fence_fate is_dropped
op_fate (IsPersist r) is_told is_dropped events safe waited = fate.Claim
op_fate (IsOrderedBefore r q) is_told is_dropped events safe waited = fate.Claim

-- What becomes of the event after the first n ones, where these stores are told as never persisted, these events are dropped, these are
-- the safe places, and each store waits for so many fences.
abbrev pub event_fate : Recording → List ℕ → List ℕ → List ℕ → List ℕ → ℕ → Event → Fate
event_fate T told dropped safe waited n e = op_fate e.op (is_listed told (suc n)) (is_listed dropped (suc n)) (length T.events) (slice_index safe n) (slice_index waited n)

-- What becomes of each event of the trace, where these stores are told as never persisted and these events are dropped.
pub record AreFates (T : Recording) (told dropped : List ℕ) (fates : List Fate) : Type 0 where
  pub safe : List ℕ
  pub are_safe : AreSafePlaces T safe
  pub waited : List ℕ
  pub are_waited : AreWaited T waited
  pub size : length fates ≡ length T.events
  pub each : (n : ℕ) (e : Event) → event T (suc n) ≡ Some e → slice_get fates n ≡ Some (event_fate T told dropped safe waited n e)

-- The marks of the numbers from 1 to n: whether each stands in the list.
pub record AreMarks (n : ℕ) (numbers : List ℕ) (marks : List Bool) : Type 0 where
  pub size : length marks ≡ n
  pub each : (k : ℕ) (b : Bool) → slice_get marks k ≡ Some b → b ≡ is_listed numbers (suc k)

-- The marks with the number's set, if there is one of it.
abbrev pub with_mark : ℕ → List Bool → List Bool
with_mark zero marks = marks
with_mark (suc k) marks = if nat_lt k (length marks) then slice_set marks k true else marks

-- Event k is a store, and safe from place p on.
abbrev pub IsSavedAt : Recording → ℕ → ℕ → Type 0
IsSavedAt T k p = (l : ℕ) × (w : Written) × IsAct T k (Stores l w) × IsSafePlace T l k p

-- Store k is safe from place p on, and the last one by place n: no store becomes safe between p and n, or at p and is made after it.
pub record IsLastSaved (T : Recording) (n k p : ℕ) : Type 0 where
  pub saved : IsSavedAt T k p
  pub by_then : p ≤ n
  pub last : (j q : ℕ) → IsSavedAt T j q → q ≤ n → (q < p) ⊎ ((q ≡ p) × (j ≤ k))

-- Event n is the next fence of the thread of event i.
abbrev pub IsOwnFence : Recording → ℕ → ℕ → Type 0
IsOwnFence T i n = (e : Event) × (event T i ≡ Some e) × IsFirst (IsFenceAfter T e.thread i) (past_of T) n × (n ≤ length T.events)

-- What a crash right after the next fence of the thread of event i keeps: the store that is safe last by then, if it was not safe at event i.
abbrev pub TellsSaved : Recording → ℕ → Option SavedBefore → Type 0
TellsSaved T i None = (n k p : ℕ) → IsOwnFence T i n → IsSavedAt T k p → p ≤ n → p ≤ i
TellsSaved T i (Some s) = IsOwnFence T i s.place × (p : ℕ) × IsLastSaved T s.place s.store p × (i < p)

-- ---- How it is found what a crash keeps without a store

-- The last of the first n events that is a store and safe from place q on is x, or x is 0 and there is none.
abbrev pub IsSaver : Recording → ℕ → ℕ → ℕ → Type 0
IsSaver T n q x = ((x ≡ 0) × ((j : ℕ) → j ≤ n → ¬ IsSavedAt T j q)) ⊎ ((x ≤ n) × IsSavedAt T x q × ((j : ℕ) → j ≤ n → IsSavedAt T j q → j ≤ x))

-- Those of all places, the first one being place 0.
pub record AreSavers (T : Recording) (n : ℕ) (savers : List ℕ) : Type 0 where
  pub size : length savers ≡ past_of T
  pub each : (q x : ℕ) → slice_get savers q ≡ Some x → IsSaver T n q x

-- The savers once an op with this number is met, which is safe from this place on if it is a store.
abbrev pub with_saver : Op → ℕ → ℕ → List ℕ → List ℕ
with_saver (Store w) safe number savers = if nat_lt safe (length savers) then slice_set savers safe number else savers
with_saver (Clwb a) safe number savers = savers
with_saver (ClflushOpt a) safe number savers = savers
with_saver (Clflush a) safe number savers = savers
with_saver Sfence safe number savers = savers
with_saver Mfence safe number savers = savers
with_saver (IsPersist r) safe number savers = savers
with_saver (IsOrderedBefore r q) safe number savers = savers

-- Store x is the last one to become safe before place n, or x is 0 and no store is safe by then.
abbrev pub IsLastBefore : Recording → ℕ → ℕ → Type 0
IsLastBefore T n x = ((x ≡ 0) × ((j q : ℕ) → IsSavedAt T j q → q < n → ⊥)) ⊎ ((p : ℕ) × IsSavedAt T x p × (p < n) × ((j q : ℕ) → IsSavedAt T j q → q < n → (q < p) ⊎ ((q ≡ p) × (j ≤ x))))

-- Those by all places, the first one being place 0.
pub record AreLast (T : Recording) (last : List ℕ) : Type 0 where
  pub size : length last ≡ past_of T
  pub each : (q x : ℕ) → slice_get last q ≡ Some x → IsLastBefore T (suc q) x

-- What is told of event i, if this is the next fence of its thread and this store is safe last by then.
abbrev pub saved_if : List ℕ → ℕ → ℕ → ℕ → Option SavedBefore
saved_if safe i fence zero = None
saved_if safe i fence (suc k) = if nat_lt i (unwrap_or (slice_get safe k) 0) then Some (record { place = fence; store = suc k }) else None

abbrev pub saved_by : List ℕ → Savings → ℕ → Option SavedBefore
saved_by safe x zero = None
saved_by safe x (suc n) =
    let fence : ℕ = unwrap_or (slice_get x.fences.items n) 0 in
    saved_if safe (suc n) fence (unwrap_or (slice_get x.last.items fence) 0)
