-- The dropped events of a trace, and what tells why each is dropped.
use Rattle.std.specs.Prelude.{◌≡◌, ◌↔◌, ◌⊎◌, ℕ, ◌<◌, ◌≤◌, ◌==◌, Bool, false, List, [], ◌∷◌, ◌++◌, drop, map, slice_get, Option, None, Some, MatchOption, nat_lt, if◌then◌else◌, length, suc, true, slice_index, slice_index_or}
use Rattle.pmt_explain.specs.Prelude.{Recording, IsRising, Has, IsKept, Act, Stores, Flushes, Clflushes, Fences, Asserts, IsAct, front_at, count_at, Reason, IsReason, HasFlushed}
use Rattle.pmt_reasons.specs.declared.reason.Reason.TheVariants.{Unfenced, Repeated, Overtaken, Empty, Useless}
use Rattle.pmt_explain.specs.declared.dropped_event.Dropped.{Dropped}
use Rattle.pmt_explain.specs.Following.{past_of, IsNextFlush}
use Rattle.pmt_explain.specs.declared.behind.Behind.{Behind}

abbrev pub event_of : Dropped → ℕ
event_of d = d.event

-- Event i is listed with the reason.
abbrev pub Lists : List Dropped → ℕ → Reason → Type 0
Lists [] i r = ⊥
Lists (d ∷ list) i r = ((d.event ≡ i) × (d.reason ≡ r)) ⊎ Lists list i r

-- The list with this event at its end, if there is a reason.
abbrev pub with_listed : ℕ → Option Reason → List Dropped → List Dropped
with_listed number None list = list
with_listed number (Some r) list = list ++ record { event = number; reason = r } ∷ []

-- By rising numbers, an event is listed with a reason exactly where that is why it is dropped.
pub record AreDropped (T : Recording) (list : List Dropped) : Type 0 where
  pub rising : IsRising 0 (map event_of list)
  pub just : (i : ℕ) (r : Reason) → Lists list i r ↔ IsReason T i r

-- Event i is kept, or this is why it is dropped.
abbrev pub TellsReason : Recording → ℕ → Option Reason → Type 0
TellsReason T i o = MatchOption o (IsKept T i) (IsReason T i)

-- The number stands in the list at the place.
abbrev pub is_number : Option ℕ → ℕ → Bool
is_number None number = false
is_number (Some k) number = k == number

abbrev pub has_at : List ℕ → ℕ → ℕ → Bool
has_at list place number = is_number (slice_get list place) number

-- From the place on stand the numbers of the list that are greater than n.
pub record IsPast (list : List ℕ) (n place : ℕ) : Type 0 where
  pub within : place ≤ n
  pub rising : IsRising n (drop place list)
  pub has : (k : ℕ) → n < k → Has list k → Has (drop place list) k

-- ---- What tells why one dropped event is dropped

-- The act is a flush by thread t.
abbrev pub flushes_by : ℕ → Act → Bool
flushes_by t (Stores k w) = false
flushes_by t (Flushes u k) = u == t
flushes_by t (Clflushes k) = false
flushes_by t (Fences u) = false
flushes_by t Asserts = false

-- Event k is a flush of line l by thread t after event n.
abbrev pub IsFlushAfter : Recording → ℕ → ℕ → ℕ → ℕ → Type 0
IsFlushAfter T t l n k = (n < k) × IsAct T k (Flushes t l)

-- So many stores to line l are safe from place p on, and not before.
abbrev pub AreSafeFrom : Recording → ℕ → ℕ → ℕ → Type 0
AreSafeFrom T l stores p = (k : ℕ) → k ≤ length T.events → (k < p) ↔ (front_at T l k < stores)

-- Why a flush is dropped whose stores are safe from this place on, which comes after it, where `fence` is the next fence of its thread, and
-- `again` the thread's next flush of the line before that, or that fence; `past` where there is no fence.
abbrev pub marking_reason : ℕ → ℕ → ℕ → ℕ → Reason
marking_reason place fence again past = if fence == past then Unfenced else if nat_lt again fence then Repeated again else Overtaken place

-- Why a fence is dropped, where this says whether its thread has flushed since the fence before it.
abbrev pub fence_reason : Bool → Reason
fence_reason has_flushed = if has_flushed then Useless else Empty

-- Of each line that has a flush after the first n events, at the next one, from which place on its stores among them are safe; and of
-- each thread whether it has flushed since its last fence.
pub record IsBehind (T : Recording) (n : ℕ) (b : Behind) : Type 0 where
  pub size : past_of T < length b.places.items
  pub places : (l k : ℕ) → IsNextFlush T l n k → k < past_of T → AreSafeFrom T l (count_at T l n) (slice_index b.places.items k)
  pub threads : length b.flushed ≡ 256
  pub flushed : (t : ℕ) → t < 256 → (slice_index_or b.flushed t false ≡ true) ↔ HasFlushed T t (suc n)
