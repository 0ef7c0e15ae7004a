-- What is proved of the definitions of pmt_model.
use Rattle.std.specs.Prelude.{◌≡◌, ℕ, ◌<◌, ◌≤◌, max, List, ◌↔◌, false, length, ◌-◌, IfSome, unwrap_or}
use Rattle.pmt_laws.specs.Prelude.{Span, Written, Act, Stores, Flushes, Clflushes, Vectors, Recording, IsAct, history, count_at, front, front_at, open_mark, IsFront, InBox, Has, always_stays, IsFaithful, cut, matching_place, IsSelection, IsKeep, IsKept, without, last_store, InSpan, PersistPasses, OrderedPasses, up_to_last, NoLater, IsRedundantFlush, IsRedundantClflush, IsNeverPersisted, IsOverwritten, OverwritesBefore, HasSameVectors, HasNoWaste, Finding, Verdict, IsAnalysis}

-- The front, kept event by event, is the greatest count that a completed flush marked.
abbrev pub FrontsAreGreatest : Type 0
FrontsAreGreatest = (T : Recording) (l n : ℕ) → IsFront T l n (front_at T l n)

-- The runs of a history end with just these counts of persisted stores.
abbrev pub VectorsAreABox : Type 0
VectorsAreABox = (history : List Act) (v : ℕ → ℕ) → Vectors history v ↔ InBox history v

-- A selection with the fronts of the trace is faithful.
abbrev pub FrontsDecide : Type 0
FrontsDecide =
    (T : Recording) (K : List ℕ) (n : ℕ) → IsSelection T K → ((l : ℕ) → front_at T l n ≡ front_at (cut T K) l (matching_place K n)) → IsFaithful T K n

-- Each trace has such a list.
abbrev pub KeepExists : Type 0
KeepExists = (T : Recording) → (K : List ℕ) × IsKeep T K

-- There is one such list.
abbrev pub KeepIsUnique : Type 0
KeepIsUnique = (T : Recording) (K J : List ℕ) → IsKeep T K → IsKeep T J → K ≡ J

-- It is a selection, and faithful at every place.
abbrev pub KeepIsFaithful : Type 0
KeepIsFaithful = (T : Recording) (K : List ℕ) (n : ℕ) → IsKeep T K → IsFaithful T K n

-- Without its event k, which is no store and no assertion, the selection is not faithful at some place.
abbrev pub NoneCanGo : Type 0
NoneCanGo =
    (T : Recording) (K : List ℕ) (k : ℕ) (a : Act) → IsKeep T K → Has K k → IsAct T k a → always_stays a ≡ false →
    (n : ℕ) × (n ≤ length T.events) × (IsFaithful T (without K k) n → ⊥)

-- The verdicts of assertion i in the trace and of the matching one in the kept selection are the same.
abbrev pub VerdictsStay : Type 0
VerdictsStay =
    (T : Recording) (K : List ℕ) (i : ℕ) → IsKeep T K →
    ((A : Span) → PersistPasses (history T i) A ↔ PersistPasses (history (cut T K) (matching_place K i)) A)
    × ((A B : Span) → OrderedPasses (history T i) A B ↔ OrderedPasses (history (cut T K) (matching_place K i)) A B)

-- isPersist by the fronts.
abbrev pub PersistByFronts : Type 0
PersistByFronts =
    (history : List Act) (A : Span) →
    PersistPasses history A ↔ ((a : ℕ) → InSpan A a → IfSome (last_store a history) (λ x. x.rank ≤ front x.line history))

-- isOrderedBefore by the fronts as of the last store to each byte of B.
abbrev pub OrderedByFronts : Type 0
OrderedByFronts =
    (history : List Act) (A B : Span) →
    OrderedPasses history A B ↔
    ((b : ℕ) → InSpan B b → IfSome (last_store b history) (λ y.
    (a : ℕ) → InSpan A a → IfSome (last_store a history) (λ x. NoLater (up_to_last b history) x y)))

-- The stores that are never persisted are the same in the kept selection.
abbrev pub NeverPersistedStays : Type 0
NeverPersistedStays =
    (T : Recording) (K : List ℕ) (l i : ℕ) (w : Written) → IsKeep T K → IsAct T i (Stores l w) →
    IsNeverPersisted T l i ↔ IsNeverPersisted (cut T K) l (matching_place K i)

-- Never persisted, by the fronts.
abbrev pub NeverPersistedByFronts : Type 0
NeverPersistedByFronts =
    (T : Recording) (l i : ℕ) (w : Written) → IsAct T i (Stores l w) → IsNeverPersisted T l i ↔ (front_at T l (length T.events) < count_at T l i)

-- A redundant flush, by the front just before it and the open mark of its thread.
abbrev pub RedundantFlushByFronts : Type 0
RedundantFlushByFronts =
    (T : Recording) (t l i : ℕ) → IsAct T i (Flushes t l) →
    IsRedundantFlush T t l i ↔ (count_at T l i ≤ max (front_at T l (i - 1)) (unwrap_or (open_mark t l (history T (i - 1))) 0))

-- A redundant clflush, by the front just before it.
abbrev pub RedundantClflushByFronts : Type 0
RedundantClflushByFronts =
    (T : Recording) (l i : ℕ) → IsAct T i (Clflushes l) → IsRedundantClflush T l i ↔ (count_at T l i ≤ front_at T l (i - 1))

-- Overwritten, by the numbers of events.
abbrev pub OverwrittenByNumbers : Type 0
OverwrittenByNumbers =
    (T : Recording) (j i : ℕ) →
    IsOverwritten T j i ↔ ((l : ℕ) × (earlier : Written) × (later : Written) × (byte : ℕ) × OverwritesBefore T l j i earlier later byte)

-- No selection with the same counts of persisted stores at every place is shorter than the kept one.
abbrev pub KeepIsShortest : Type 0
KeepIsShortest = (T : Recording) (K S : List ℕ) → IsKeep T K → IsSelection T S → HasSameVectors T S → length K ≤ length S

-- The trimmed trace has no redundant flush and no fence without flush.
abbrev pub TrimmedHasNoWaste : Type 0
TrimmedHasNoWaste = (T : Recording) (K : List ℕ) → IsKeep T K → HasNoWaste (cut T K)

-- Each event of the trimmed trace would be kept again, so trimming it drops nothing.
abbrev pub TrimmedAgain : Type 0
TrimmedAgain = (T : Recording) (K : List ℕ) (i : ℕ) → IsKeep T K → 1 ≤ i → i ≤ length (cut T K).events → IsKept (cut T K) i

-- A trimmed trace, trimmed again, stays the same.
abbrev pub TrimmedStays : Type 0
TrimmedStays = (T : Recording) (K J : List ℕ) → IsKeep T K → IsKeep (cut T K) J → cut (cut T K) J ≡ cut T K

-- Two analyses of a trace are one: whoever makes it, and with however many workers, gives the same answer.
abbrev pub AnalysisIsUnique : Type 0
AnalysisIsUnique =
    (T : Recording) (m n : ℕ) (fs gs : List Finding) (vs ws : List Verdict) (K J : List ℕ) → IsAnalysis T m fs vs K → IsAnalysis T n gs ws J →
    (m ≡ n) × (fs ≡ gs) × (vs ≡ ws) × (K ≡ J)
