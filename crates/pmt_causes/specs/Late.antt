-- How long stores wait until they are safe, by kinds of events, and the flushes and fences they wait for.
use Rattle.std.specs.Prelude.{ℕ, zero, suc, ◌+◌, Bool, if◌then◌else◌, true, false, Option, None, Some, ◌≡◌, ◌==◌, ◌&&◌, nat_lt, nat_le, List, [], ◌∷◌, ◌++◌, length, slice_get, slice_index, ◌-◌, ◌≤◌, ◌<◌, min, slice_index_or, slice_set}
use Rattle.pmt_laws.specs.Prelude.{Event, Op, Store, Clwb, ClflushOpt, Clflush, Sfence, Mfence, IsPersist, IsOrderedBefore, Layout, Written, line_of, Stores, Recording, event, act, IsAct, All, count_by, IsNonDecreasingBy}
use Rattle.pmt_explain.specs.Following.{IsSafePlace}
use Rattle.pmt_causes.specs.declared.grouping.Keyed.{Keyed}
use Rattle.pmt_causes.specs.declared.late.LateSpot.{LateSpot}
use Rattle.pmt_causes.specs.declared.late.LateSpot.TheVariants.{Label, Line}
use Rattle.pmt_causes.specs.Groups.{label_of}

-- How many of the numbers from 1 to n pass.
abbrev pub counted : (ℕ → Bool) → ℕ → ℕ
counted passes zero = 0
counted passes (suc n) = counted passes n + (if passes (suc n) then 1 else 0)

-- ---- Kinds of events

abbrev pub is_store : Op → Bool
is_store (Store w) = true
is_store (Clwb a) = false
is_store (ClflushOpt a) = false
is_store (Clflush a) = false
is_store Sfence = false
is_store Mfence = false
is_store (IsPersist r) = false
is_store (IsOrderedBefore r q) = false

abbrev pub is_flush : Op → Bool
is_flush (Store w) = false
is_flush (Clwb a) = true
is_flush (ClflushOpt a) = true
is_flush (Clflush a) = true
is_flush Sfence = false
is_flush Mfence = false
is_flush (IsPersist r) = false
is_flush (IsOrderedBefore r q) = false

abbrev pub op_passes : (Op → Bool) → Option Event → Bool
op_passes is None = false
op_passes is (Some e) = is e.op

-- ---- How long stores wait until they are safe

abbrev pub is_fence : Op → Bool
is_fence (Store w) = false
is_fence (Clwb a) = false
is_fence (ClflushOpt a) = false
is_fence (Clflush a) = false
is_fence Sfence = true
is_fence Mfence = true
is_fence (IsPersist r) = false
is_fence (IsOrderedBefore r q) = false

abbrev pub fences_by : ℕ → Option Event → Bool
fences_by t None = false
fences_by t (Some e) = (e.thread == t) && is_fence e.op

-- Event k is a fence of thread t.
abbrev pub is_fence_of : Recording → ℕ → ℕ → Bool
is_fence_of T t k = fences_by t (event T k)

-- How many fences of thread t stand after event i and before event p.
abbrev pub fences_between : Recording → ℕ → ℕ → ℕ → ℕ
fences_between T t i p = counted (λ k. nat_lt i k && (nat_lt k p && is_fence_of T t k)) (length T.events)

-- So many fences of its own thread stand after event i and before its safe place, if it is a store; 0 of another event. A fence by
-- which the store is safe stands at the safe place, and does not count.
pub record IsWaited (T : Recording) (i n : ℕ) : Type 0 where
  pub store : (e : Event) (l : ℕ) (w : Written) → event T i ≡ Some e → act T.format e ≡ Stores l w → (p : ℕ) × IsSafePlace T l i p × (n ≡ fences_between T e.thread i p)
  pub other : ((l : ℕ) (w : Written) → ¬ IsAct T i (Stores l w)) → n ≡ 0

-- The waits of all events, the first one being event 1.
pub record AreWaited (T : Recording) (list : List ℕ) : Type 0 where
  pub size : length list ≡ length T.events
  pub each : (k n : ℕ) → slice_get list k ≡ Some n → IsWaited T (suc k) n

-- Where a store to the line stands: its label, or without one its line.
abbrev pub late_spot : Option ℕ → ℕ → LateSpot
late_spot None line = Line line
late_spot (Some label) line = Label label

-- The spot of an op that waited for so many fences, if it is a store and they are two or more.
abbrev pub spot_of_op : Layout → Option ℕ → ℕ → Op → Option LateSpot
spot_of_op format label n (Store w) = if nat_le 2 n then Some (late_spot label (line_of format w.addr)) else None
spot_of_op format label n (Clwb a) = None
spot_of_op format label n (ClflushOpt a) = None
spot_of_op format label n (Clflush a) = None
spot_of_op format label n Sfence = None
spot_of_op format label n Mfence = None
spot_of_op format label n (IsPersist r) = None
spot_of_op format label n (IsOrderedBefore r q) = None

abbrev pub spot_of_event : Layout → Option ℕ → ℕ → Option Event → Option LateSpot
spot_of_event format label n None = None
spot_of_event format label n (Some e) = spot_of_op format label n e.op

-- The spot of event i, if it is a late store.
abbrev pub spot_of : Recording → List (Option ℕ) → List ℕ → ℕ → Option LateSpot
spot_of T labels waited zero = None
spot_of T labels waited (suc k) = spot_of_event T.format (label_of labels (suc k)) (slice_index waited k) (event T (suc k))

abbrev pub with_spot : ℕ → Option LateSpot → List (Keyed LateSpot) → List (Keyed LateSpot)
with_spot i None items = items
with_spot i (Some s) items = items ++ record { key = s; number = i } ∷ []

-- The late stores among the first n events, in their order, each with its spot.
abbrev pub late_items : Recording → List (Option ℕ) → List ℕ → ℕ → List (Keyed LateSpot)
late_items T labels waited zero = []
late_items T labels waited (suc n) = with_spot (suc n) (spot_of T labels waited (suc n)) (late_items T labels waited n)

-- The late stores of the trace, in their order, each with its spot.
abbrev pub AreLateItems : Recording → List (Option ℕ) → List (Keyed LateSpot) → Type 0
AreLateItems T labels items = (waited : List ℕ) × AreWaited T waited × (items ≡ late_items T labels waited (length T.events))

-- ---- The fences of each thread, in order

-- The numbers of the fences of thread t among the first n events: they rise, and up to each place are as many as there are fences.
pub record AreFencesBy (T : Recording) (t n : ℕ) (list : List ℕ) : Type 0 where
  pub order : IsNonDecreasingBy (λ k. k) list
  pub within : All (λ k. k ≤ n) list
  pub each : (q : ℕ) → count_by (λ k. nat_le k q) list ≡ counted (is_fence_of T t) (min q n)

abbrev pub list_by : List (List ℕ) → ℕ → List ℕ
list_by lists t = slice_index_or lists t []

-- Those of all threads, by thread.
pub record AreFences (T : Recording) (n : ℕ) (lists : List (List ℕ)) : Type 0 where
  pub size : length lists ≡ 256
  pub each : (t : ℕ) → t < 256 → AreFencesBy T t n (list_by lists t)

-- The lists with event i of thread t, if it is a fence.
abbrev pub with_fence : ℕ → Op → ℕ → List (List ℕ) → List (List ℕ)
with_fence t op i lists = if is_fence op then slice_set lists t (list_by lists t ++ i ∷ []) else lists

-- How many of these numbers are past i and below p, if the op is a store.
abbrev pub wait_of : List ℕ → Op → ℕ → ℕ → ℕ
wait_of list (Store w) i p = count_by (λ k. nat_le k (p - 1)) list - count_by (λ k. nat_le k i) list
wait_of list (Clwb a) i p = 0
wait_of list (ClflushOpt a) i p = 0
wait_of list (Clflush a) i p = 0
wait_of list Sfence i p = 0
wait_of list Mfence i p = 0
wait_of list (IsPersist r) i p = 0
wait_of list (IsOrderedBefore r q) i p = 0
