-- What mends a store that is not safe, and traces with a mend put in.
use Rattle.std.specs.Prelude.{◌≡◌, ℕ, suc, ◌<◌, ◌≤◌, Bool, true, false, length, Option, None, Some, MatchOption, zero, ◌+◌, nat_le, if◌then◌else◌, List, [], ◌∷◌}
use Rattle.pmt_laws.specs.Prelude.{Written, Act, Stores, Flushes, Fences, State, Ends, IsMoment, Recording, IsAct, history, count_at, Event, IsTrace, act, event, event_limit, option_map}
use Rattle.pmt_reasons.specs.declared.cause.Cause.{Cause}
use Rattle.pmt_reasons.specs.declared.cause.Cause.TheVariants.{Later, Unflushed, Unfenced}
use Rattle.pmt_reasons.specs.declared.failure.ByteStore.{ByteStore}
use Rattle.pmt_reasons.specs.declared.failure.Failure.{Failure}
use Rattle.pmt_reasons.specs.declared.mend.Mend.{Mend}
use Rattle.pmt_reasons.specs.declared.mend.Mend.TheVariants.{Fence, FlushAndFence, StoreFirst}
use Rattle.pmt_reasons.specs.Causes.{IsCause}
use Rattle.pmt_reasons.specs.Failures.{IsFailureAt}

-- What makes store `last` to line l safe before the event, for each cause: what comes too late is stored earlier; what is not flushed
-- is flushed and fenced; what is flushed is fenced by the thread that flushed it first.
abbrev pub mend_of : Cause → ℕ → ℕ → Option ℕ → Bool → Mend
mend_of Later l last before same_line = StoreFirst last before same_line
mend_of Unflushed l last before same_line = FlushAndFence l last before
mend_of (Unfenced flush thread other) l last before same_line = Fence thread flush before

-- ---- The trace with the mend put in

-- Trace U has the events of T, among others: `new` tells the number that each has there.
abbrev pub HasEvents : Recording → Recording → (ℕ → ℕ) → Type 0
HasEvents T U new = (i : ℕ) (a : Act) → IsAct T i a → IsAct U (new i) a

-- It has them in their order, but for those that are moved.
abbrev pub KeepsOrderBut : (ℕ → Type 0) → (ℕ → ℕ) → Type 0
KeepsOrderBut IsMoved new = (i j : ℕ) → ¬ IsMoved i → ¬ IsMoved j → i < j → new i < new j

-- The number that the event has in U; where there is none, the first one past the end.
abbrev pub number_or_end : Recording → (ℕ → ℕ) → Option ℕ → ℕ
number_or_end U new None = suc (length U.events)
number_or_end U new (Some b) = new b

-- Between events a and b of U the thread fences.
pub record IsFencedBetween (U : Recording) (thread a b : ℕ) : Type 0 where
  pub fence : ℕ
  pub is_fence : IsAct U fence (Fences thread)
  pub after : a < fence
  pub before : fence < b

-- Between events a and b of U a thread flushes line l, and fences then.
pub record IsFlushedBetween (U : Recording) (l a b : ℕ) : Type 0 where
  pub thread : ℕ
  pub flush : ℕ
  pub is_flush : IsAct U flush (Flushes thread l)
  pub after : a < flush
  pub fenced : IsFencedBetween U thread flush b

-- Store x comes before event b of U. Unless both are known to be on one line, its line is flushed and fenced in between.
pub record IsStoredBefore (T U : Recording) (new : ℕ → ℕ) (x b : ℕ) (same_line : Bool) : Type 0 where
  pub line : ℕ
  pub what : Written
  pub is_store : IsAct T x (Stores line what)
  pub earlier : new x < b
  pub flushed : same_line ≡ false → IsFlushedBetween U line (new x) b

-- Trace U is T with the mend put in: the events of T in their order, with the mend's own among them, anywhere between the two events
-- that the mend names; other events may be put in as well. Of what is to be stored first only the order changes.
abbrev pub HasMend : Recording → Recording → (ℕ → ℕ) → Mend → Type 0
HasMend T U new (Fence thread after before) =
    HasEvents T U new × KeepsOrderBut (λ i. ⊥) new × IsFencedBetween U thread (new after) (number_or_end U new before)
HasMend T U new (FlushAndFence line after before) =
    HasEvents T U new × KeepsOrderBut (λ i. ⊥) new × IsFlushedBetween U line (new after) (number_or_end U new before)
HasMend T U new (StoreFirst store before same_line) =
    HasEvents T U new × KeepsOrderBut (λ i. i ≡ store) new × IsStoredBefore T U new store (number_or_end U new before) same_line

-- ---- That the crash is gone

-- Store x is persisted in the state.
pub record HasPersisted (U : Recording) (s : State) (x : ℕ) : Type 0 where
  pub line : ℕ
  pub what : Written
  pub is_store : IsAct U x (Stores line what)
  pub persisted : count_at U line x ≤ s.persisted line

-- Each run of the first i events ends with store x persisted; beside a store y, no moment of such a run has y persisted without x.
abbrev pub IsNeverLost : Recording → ℕ → Option ℕ → ℕ → Type 0
IsNeverLost U i None x = (s : State) → Ends (history U i) s → HasPersisted U s x
IsNeverLost U i (Some y) x = (s : State) → IsMoment (history U i) s → HasPersisted U s y → HasPersisted U s x

-- With the mend put in, no crash up to assertion i, which fails so, loses that store, or keeps the one without the other.
abbrev pub MendsFailure : Recording → ℕ → Failure → Mend → Type 0
MendsFailure T i f m =
    (U : Recording) (new : ℕ → ℕ) → HasMend T U new m → IsNeverLost U (new i) (option_map (λ (y : ByteStore). new y.store) f.kept) (new f.lost.store)

-- With the mend put in, no crash at the end loses store x.
abbrev pub MendsLoss : Recording → ℕ → Mend → Type 0
MendsLoss T x m = (U : Recording) (new : ℕ → ℕ) → HasMend T U new m → IsNeverLost U (length U.events) None (new x)

-- The kept store is one to line l.
abbrev pub KeepsInLine : Recording → ℕ → Option ByteStore → Type 0
KeepsInLine T l kept = MatchOption kept ⊥ (λ y. (w : Written) × IsAct T y.store (Stores l w))

-- Of a failure: what is told for the cause of its lost store mends it.
abbrev pub FailureIsMended : Type 0
FailureIsMended =
    (T : Recording) (i l : ℕ) (w : Written) (f : Failure) (c : Cause) (same_line : Bool) →
    IsFailureAt T i (Some f) → IsAct T f.lost.store (Stores l w) → IsCause T l f.place f.lost.store c → (same_line ≡ true → KeepsInLine T l f.kept) →
    MendsFailure T i f (mend_of c l f.lost.store (Some f.place) same_line)

-- Of stores to a line that are lost at the end for one cause: what is told for the cause and the last of them mends each.
abbrev pub LossIsMended : Type 0
LossIsMended =
    (T : Recording) (l x last : ℕ) (w : Written) (c : Cause) → IsAct T x (Stores l w) → x ≤ last → IsCause T l (length T.events) x c →
    MendsLoss T x (mend_of c l last None false)

-- ---- Traces with a mend put in: that there are such, whatever place is taken between the two events that the mend names

-- The events with one more after the first p.
abbrev pub with_at : ℕ → Event → List Event → List Event
with_at zero e es = e ∷ es
with_at (suc p) e [] = e ∷ []
with_at (suc p) e (d ∷ es) = d ∷ with_at p e es

-- The events without the one that stands after the first p.
abbrev pub without_at : ℕ → List Event → List Event
without_at p [] = []
without_at zero (d ∷ es) = es
without_at (suc p) (d ∷ es) = d ∷ without_at p es

-- The trace with an event put in after its first p events, and the number that event i has there.
abbrev pub put_in : Recording → ℕ → Event → Recording
put_in T p e = record { format = T.format; events = with_at p e T.events }

abbrev pub number_after : ℕ → ℕ → ℕ
number_after p i = if nat_le i p then i else suc i

-- The trace with a flush and a fence put in after its first p events, and the number that event i has there.
abbrev pub put_in_both : Recording → ℕ → Event → Event → Recording
put_in_both T p flush fence = put_in (put_in T p fence) p flush

abbrev pub number_after_both : ℕ → ℕ → ℕ
number_after_both p i = number_after p (number_after p i)

-- The place comes no earlier than event `after`, and before event `before`, or no later than the end.
pub record IsPlaceBetween (T : Recording) (after p : ℕ) (before : Option ℕ) : Type 0 where
  pub behind : after ≤ p
  pub within : p ≤ length T.events
  pub ahead : MatchOption before (Unit {0}) (λ b. p < b)

-- The trace with store number k + 1, which is this event, made after the first p events instead, and the number that event i has there.
abbrev pub put_first : Recording → ℕ → ℕ → Event → Recording
put_first T k p store = record { format = T.format; events = with_at p store (without_at k T.events) }

abbrev pub number_first : ℕ → ℕ → ℕ → ℕ
number_first k p i = if nat_le i p then i else (if nat_le i k then suc i else (if nat_le i (suc k) then suc p else i))

-- At each place between the two events a fence can be put in.
abbrev pub FenceCanBePutIn : Type 0
FenceCanBePutIn =
    (T : Recording) (thread after p : ℕ) (before : Option ℕ) (fence : Event) → act T.format fence ≡ Fences thread → IsPlaceBetween T after p before →
    HasMend T (put_in T p fence) (number_after p) (Fence thread after before)

-- And so can a flush and a fence.
abbrev pub FlushAndFenceCanBePutIn : Type 0
FlushAndFenceCanBePutIn =
    (T : Recording) (thread line after p : ℕ) (before : Option ℕ) (flush fence : Event) → act T.format flush ≡ Flushes thread line → act T.format fence ≡ Fences thread →
    IsPlaceBetween T after p before → HasMend T (put_in_both T p flush fence) (number_after_both p) (FlushAndFence line after before)

-- At each place before an earlier event a store can be made first.
abbrev pub StoreCanBePutFirst : Type 0
StoreCanBePutFirst =
    (T : Recording) (k p b line : ℕ) (what : Written) (store : Event) → event T (suc k) ≡ Some store → act T.format store ≡ Stores line what → p < b → b ≤ k →
    HasMend T (put_first T k p store) (number_first k p) (StoreFirst (suc k) (Some b) true)

-- And be flushed and fenced there.
abbrev pub FlushedStoreCanBePutFirst : Type 0
FlushedStoreCanBePutFirst =
    (T : Recording) (k p b line thread : ℕ) (what : Written) (store flush fence : Event) → event T (suc k) ≡ Some store → act T.format store ≡ Stores line what →
    act T.format flush ≡ Flushes thread line → act T.format fence ≡ Fences thread → p < b → b ≤ k →
    HasMend T (put_in_both (put_first T k p store) (suc p) flush fence) (λ i. number_after_both (suc p) (number_first k p i)) (StoreFirst (suc k) (Some b) false)

-- ---- That there is such a trace for each mend that is told

-- There is one. It is a trace as T is, unless it gets too long by its two events more.
pub record CanBePutIn (T : Recording) (m : Mend) : Type 0 where
  pub mended : Recording
  pub new : ℕ → ℕ
  pub has : HasMend T mended new m
  pub is_trace : IsTrace T → length T.events + 2 ≤ event_limit → IsTrace mended

-- Of a failure: what is told for the cause of its lost store can be put in.
abbrev pub FailureCanBeMended : Type 0
FailureCanBeMended =
    (T : Recording) (i l : ℕ) (w : Written) (f : Failure) (c : Cause) (same_line : Bool) →
    IsFailureAt T i (Some f) → IsAct T f.lost.store (Stores l w) → IsCause T l f.place f.lost.store c →
    CanBePutIn T (mend_of c l f.lost.store (Some f.place) same_line)

-- Of a store x that is lost at the end, and the last store to its line that is: what is told for the cause and the last can be put in.
abbrev pub LossCanBeMended : Type 0
LossCanBeMended =
    (T : Recording) (l x last : ℕ) (w v : Written) (c : Cause) → IsAct T x (Stores l w) → IsAct T last (Stores l v) → IsCause T l (length T.events) x c →
    CanBePutIn T (mend_of c l last None false)
