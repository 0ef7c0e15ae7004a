-- The crashes that violate assertions.
use Rattle.std.specs.Prelude.{◌≡◌, ℕ, ◌<◌, ◌≤◌, ◌⊎◌, ◌==◌, if◌then◌else◌, Option, None, Some, MatchOption}
use Rattle.pmt_laws.specs.Prelude.{Span, Written, Op, Store, Clwb, ClflushOpt, Clflush, Sfence, Mfence, IsPersist, IsOrderedBefore, Stores, State, Ends, IsMoment, Recording, IsAct, event, history, count_at, front_at, InSpan, PersistPasses, OrderedPasses, last_store_number}
use Rattle.pmt_reasons.specs.declared.failure.ByteStore.{ByteStore}
use Rattle.pmt_reasons.specs.declared.failure.Failure.{Failure}

-- How many stores of line l the crash at place n leaves persisted: those that are safe, but all of the full line, if there is one.
abbrev pub persisted_at : Recording → ℕ → Option ℕ → ℕ → ℕ
persisted_at T n None l = front_at T l n
persisted_at T n (Some full) l = if l == full then count_at T l n else front_at T l n

-- The crash is at a moment of a run of the first i events, and at the end of one where it comes after all of them.
pub record IsCrash (T : Recording) (i n : ℕ) (full : Option ℕ) : Type 0 where
  pub state : State
  pub moment : IsMoment (history T i) state
  pub end : i ≡ n → Ends (history T i) state
  pub now : state.history ≡ history T n
  pub persisted : (l : ℕ) → state.persisted l ≡ persisted_at T n full l

abbrev pub CrashIsMoment : Type 0
CrashIsMoment = (T : Recording) (i n : ℕ) (full : Option ℕ) → n ≤ i → IsCrash T i n full

-- Store x to line l is not among the persisted ones after the crash at place n.
pub record IsLost (T : Recording) (n : ℕ) (full : Option ℕ) (x : ℕ) : Type 0 where
  pub line : ℕ
  pub what : Written
  pub is_store : IsAct T x (Stores line what)
  pub missing : persisted_at T n full line < count_at T line x

-- Of the first i events x.store is the last one that stores to the byte x.byte, which lies in A.
pub record IsLastIn (T : Recording) (i : ℕ) (A : Span) (x : ByteStore) : Type 0 where
  pub inside : InSpan A x.byte
  pub last : last_store_number x.byte (history T i) ≡ Some x.store

-- By the number of the store, and then by the address of the byte.
abbrev pub IsNoLater : ByteStore → ByteStore → Type 0
IsNoLater x z = (x.store < z.store) ⊎ ((x.store ≡ z.store) × (x.byte ≤ z.byte))

-- Of the last stores to bytes of A this is the first one that the crash at place n loses.
pub record IsFirstLost (T : Recording) (i : ℕ) (A : Span) (n : ℕ) (full : Option ℕ) (x : ByteStore) : Type 0 where
  pub is_last : IsLastIn T i A x
  pub is_lost : IsLost T n full x.store
  pub first : (z : ByteStore) → IsLastIn T i A z → IsLost T n full z.store → IsNoLater x z

-- A crash that violates the isPersist of A at event i.
pub record IsPersistFailure (T : Recording) (i : ℕ) (A : Span) (f : Failure) : Type 0 where
  pub place : f.place ≡ i
  pub kept : f.kept ≡ None
  pub lost : IsFirstLost T i A i None f.lost

-- The crash right after the last store y to a byte of B, with all stores to its line persisted, loses store x.
pub record IsKeptWithout (T : Recording) (i : ℕ) (B : Span) (y : ByteStore) (x : ℕ) : Type 0 where
  pub line : ℕ
  pub what : Written
  pub is_last : IsLastIn T i B y
  pub is_store : IsAct T y.store (Stores line what)
  pub is_lost : IsLost T y.store (Some line) x

-- A crash that violates the isOrderedBefore of A and B at event i: of all of them that with the first kept store.
pub record IsOrderedFailure (T : Recording) (i : ℕ) (A B : Span) (f : Failure) : Type 0 where
  pub kept : ByteStore
  pub line : ℕ
  pub what : Written
  pub is_kept : f.kept ≡ Some kept
  pub place : f.place ≡ kept.store
  pub is_last : IsLastIn T i B kept
  pub is_store : IsAct T kept.store (Stores line what)
  pub lost : IsFirstLost T i A kept.store (Some line) f.lost
  pub first : (y x : ByteStore) → IsLastIn T i A x → IsKeptWithout T i B y x.store → IsNoLater kept y

-- The failure of event i, if it is an assertion that doesn't pass.
abbrev pub IsFailureOf : Recording → ℕ → Op → Option Failure → Type 0
IsFailureOf T i (Store w) o = o ≡ None
IsFailureOf T i (Clwb a) o = o ≡ None
IsFailureOf T i (ClflushOpt a) o = o ≡ None
IsFailureOf T i (Clflush a) o = o ≡ None
IsFailureOf T i Sfence o = o ≡ None
IsFailureOf T i Mfence o = o ≡ None
IsFailureOf T i (IsPersist A) o = MatchOption o (PersistPasses (history T i) A) (IsPersistFailure T i A)
IsFailureOf T i (IsOrderedBefore A B) o = MatchOption o (OrderedPasses (history T i) A B) (IsOrderedFailure T i A B)

abbrev pub IsFailureAt : Recording → ℕ → Option Failure → Type 0
IsFailureAt T i o = MatchOption (event T i) (o ≡ None) (λ e. IsFailureOf T i e.op o)

-- What has a failure doesn't pass.
abbrev pub PersistFailureFails : Type 0
PersistFailureFails = (T : Recording) (i : ℕ) (A : Span) (f : Failure) → IsPersistFailure T i A f → ¬ PersistPasses (history T i) A

abbrev pub OrderedFailureFails : Type 0
OrderedFailureFails = (T : Recording) (i : ℕ) (A B : Span) (f : Failure) → IsOrderedFailure T i A B f → ¬ OrderedPasses (history T i) A B
