-- The slice of an assertion: the events by which it has its verdict, and its stores their causes.
use Rattle.std.specs.Prelude.{◌≡◌, ℕ, ◌+◌, ◌<◌, ◌≤◌, ◌⊎◌, Bool, true, false, List, length, slice_index_or, ◌↔◌, Some, ◌≢◌, suc, slice_get, slice_index}
use Rattle.pmt_explain.specs.Prelude.{Span, line_of, Event, Op, Store, Clwb, ClflushOpt, Clflush, Sfence, Mfence, IsPersist, IsOrderedBefore, Verdict, Flushes, Clflushes, Fences, Stores, Recording, IsAct, event, history, IsRising, Has, cut, matching_place, PersistPasses, OrderedPasses, InSpan, IsVerdictOf, IsFlushOf, IsSafe, option_map, Cause, Later, Unflushed, Unfenced, ByteStore, Failure, IsFailureAt, IsFirstFenceAt, IsCause, Written, writes}
use Rattle.pmt_safety.specs.Safety.{IsSafeFrom, IsLastIn}
use Rattle.pmt_tables.specs.Flags.{is_kept_at}
use Rattle.pmt_explain.specs.Following.{IsFirst, IsFenceAfter, IsCompletedAfter, past_of}
use Rattle.pmt_slices.specs.declared.unwritten.Unwritten.{Unwritten}
use Rattle.pmt_slices.specs.declared.coming.Coming.{Coming}
use Rattle.pmt_slices.specs.declared.scan.Scan.{Scan}
use Rattle.pmt_slices.specs.declared.store_slicing.Fate.{Fate}

abbrev pub is_free : List Bool → ℕ → Bool
is_free bytes k = slice_index_or bytes k false

-- The places from `from` up to the one before `to` are taken; whether one of them was free is told.
pub record TakesBytes (from to : ℕ) (told : Bool) (old new : List Bool) : Type 0 where
  pub size : length new ≡ length old
  pub inside : (k : ℕ) → from ≤ k → k < to → is_free new k ≡ false
  pub others : (k : ℕ) → (k < from) ⊎ (to ≤ k) → is_free new k ≡ is_free old k
  pub some : told ≡ true → (k : ℕ) × (from ≤ k) × (k < to) × (is_free old k ≡ true)
  pub none : told ≡ false → (k : ℕ) → from ≤ k → k < to → is_free old k ≡ false

-- The bytes that the store writes are taken; whether one of them was free is told.
pub record TakesStore (w : Written) (told : Bool) (old new : Unwritten) : Type 0 where
  pub low : new.low ≡ old.low
  pub size : length new.bytes.items ≡ length old.bytes.items
  pub own : (k : ℕ) → k < length old.bytes.items → writes w (old.low + k) ≡ true → is_free new.bytes.items k ≡ false
  pub others : (k : ℕ) → k < length old.bytes.items → writes w (old.low + k) ≡ false → is_free new.bytes.items k ≡ is_free old.bytes.items k
  pub some : told ≡ true → (k : ℕ) × (k < length old.bytes.items) × (writes w (old.low + k) ≡ true) × (is_free old.bytes.items k ≡ true)
  pub none : told ≡ false → (k : ℕ) → k < length old.bytes.items → writes w (old.low + k) ≡ true → is_free old.bytes.items k ≡ false

-- Rising numbers of events. Any event may be left out, a store or an assertion too.
pub record IsSubsequence (T : Recording) (K : List ℕ) : Type 0 where
  pub rising : IsRising 0 K
  pub within : (k : ℕ) → Has K k → k ≤ length T.events

-- ---- What a verdict goes by

-- A flush of line l after store j is complete at place p, and its events are chosen: the flush and a fence by its thread, or a clflush.
pub data HasCover (T : Recording) (Chosen : ℕ → Type 0) (l j p : ℕ) : Type 0 where
  ByFlush : (t flush : ℕ) → IsAct T flush (Flushes t l) → IsAct T p (Fences t) → j < flush → flush < p → Chosen flush → Chosen p → HasCover T Chosen l j p
  ByClflush : IsAct T p (Clflushes l) → j < p → Chosen p → HasCover T Chosen l j p

-- Of each byte of the range the last one of the first n events that stores to it is chosen.
abbrev pub HasLastStores : Recording → (ℕ → Type 0) → ℕ → Span → Type 0
HasLastStores T Chosen n A = (l j : ℕ) → IsLastIn T n A l j → Chosen j

-- And with each of them that is safe by place n the events by which it is safe first.
pub record HasGrounds (T : Recording) (Chosen : ℕ → Type 0) (n : ℕ) (A : Span) : Type 0 where
  pub stores : HasLastStores T Chosen n A
  pub covers : (l j p : ℕ) → IsLastIn T n A l j → p ≤ n → IsSafeFrom T l j p → HasCover T Chosen l j p

-- Where the events of a subsequence are those grounds, an assertion at place n passes in the trace exactly if it passes at the matching
-- place of the trace cut to the subsequence. Of the second range of an isOrderedBefore the last stores are enough.
pub record VerdictBySelection : Type 0 where
  pub persist : (T : Recording) (K : List ℕ) (n : ℕ) (A : Span) → IsSubsequence T K → HasGrounds T (Has K) n A →
      PersistPasses (history T n) A ↔ PersistPasses (history (cut T K) (matching_place K n)) A
  pub ordered : (T : Recording) (K : List ℕ) (n : ℕ) (A B : Span) → IsSubsequence T K → HasGrounds T (Has K) n A → HasLastStores T (Has K) n B →
      OrderedPasses (history T n) A B ↔ OrderedPasses (history (cut T K) (matching_place K n)) A B

-- ---- The slice

-- Event f is the first flush of line l after event j.
pub record IsFirstFlush (T : Recording) (l j f : ℕ) : Type 0 where
  pub is_flush : IsFlushOf T l f
  pub after : j < f
  pub first : (k : ℕ) → j < k → k < f → ¬ IsFlushOf T l k

-- Event f is the first flush of line l by thread t after event j.
pub record IsFirstFlushBy (T : Recording) (t l j f : ℕ) : Type 0 where
  pub is_flush : IsAct T f (Flushes t l)
  pub after : j < f
  pub first : (k : ℕ) → j < k → k < f → ¬ IsAct T k (Flushes t l)

-- Of store j to line l, event k tells what becomes of it up to place n: it is the store itself; or where it is safe first, the fence or
-- clflush there, and the first flush by the fence's thread; or the first flush of its line, or the first fence after that, if the store is
-- not safe before.
pub data Tells (T : Recording) (n l j k : ℕ) : Type 0 where
  Itself : k ≡ j → Tells T n l j k
  Completes : k ≤ n → IsSafeFrom T l j k → Tells T n l j k
  Covers : (t p : ℕ) → p ≤ n → IsSafeFrom T l j p → IsAct T p (Fences t) → IsFirstFlushBy T t l j k → Tells T n l j k
  FirstFlush : k ≤ n → IsFirstFlush T l j k → Tells T n l j k
  FirstFence : (f : ℕ) → IsFirstFlush T l j f → IsFirstFenceAt T f n k → ((p : ℕ) → p < k → ¬ IsSafe T l p j) → Tells T n l j k

-- The op is an assertion of the range.
abbrev pub Speaks : Op → Span → Type 0
Speaks (Store w) A = ⊥
Speaks (Clwb a) A = ⊥
Speaks (ClflushOpt a) A = ⊥
Speaks (Clflush a) A = ⊥
Speaks Sfence A = ⊥
Speaks Mfence A = ⊥
Speaks (IsPersist r) A = r ≡ A
Speaks (IsOrderedBefore r q) A = (r ≡ A) ⊎ (q ≡ A)

-- Event n is an assertion of the range.
abbrev pub IsRangeOf : Recording → ℕ → Span → Type 0
IsRangeOf T n A = (e : Event) × (event T n ≡ Some e) × Speaks e.op A

-- Event n is an assertion.
abbrev pub IsAssertion : Recording → ℕ → Type 0
IsAssertion T n = (A : Span) × IsRangeOf T n A

-- Event k is the assertion at n, or tells of the last store to a byte of one of its ranges.
pub data IsInSlice (T : Recording) (n k : ℕ) : Type 0 where
  TheAssertion : k ≡ n → IsInSlice T n k
  OfStore : (A : Span) (l j : ℕ) → IsRangeOf T n A → IsLastIn T n A l j → Tells T n l j k → IsInSlice T n k

-- K is the rising list of these events.
pub record IsSlice (T : Recording) (n : ℕ) (K : List ℕ) : Type 0 where
  pub rising : IsRising 0 K
  pub just : (k : ℕ) → Has K k ↔ IsInSlice T n k

-- ---- What it owes

-- The verdict, of the matching event.
abbrev pub verdict_in : List ℕ → Verdict → Verdict
verdict_in K v = record v { event = matching_place K v.event }

-- The trace cut to the slice of an assertion gives it the same verdict.
abbrev pub SliceJudges : Type 0
SliceJudges = (T : Recording) (n : ℕ) (K : List ℕ) (v : Verdict) → IsSlice T n K → v.event ≡ n → IsVerdictOf T v → IsVerdictOf (cut T K) (verdict_in K v)

-- The cause, by the numbers of the matching events.
abbrev pub cause_in : List ℕ → Cause → Cause
cause_in K Later = Later
cause_in K Unflushed = Unflushed
cause_in K (Unfenced flush thread other) = Unfenced (matching_place K flush) thread (option_map (matching_place K) other)

-- At each place up to the assertion, each last store to a byte of its ranges is safe in the cut where it is safe in the trace, and else
-- pending for the same cause.
pub record SliceTells : Type 0 where
  pub safe : (T : Recording) (n : ℕ) (K : List ℕ) (A : Span) (l j q : ℕ) → IsSlice T n K → IsRangeOf T n A → IsLastIn T n A l j → q ≤ n →
      IsSafe T l q j ↔ IsSafe (cut T K) l (matching_place K q) (matching_place K j)
  pub cause : (T : Recording) (n : ℕ) (K : List ℕ) (A : Span) (l j q : ℕ) (c : Cause) → IsSlice T n K → IsRangeOf T n A → IsLastIn T n A l j → q ≤ n →
      IsCause T l q j c → IsCause (cut T K) l (matching_place K q) (matching_place K j) (cause_in K c)

-- The crash of a failure, by the numbers of the matching events.
abbrev pub store_in : List ℕ → ByteStore → ByteStore
store_in K x = record { store = matching_place K x.store; byte = x.byte }

abbrev pub failure_in : List ℕ → Failure → Failure
failure_in K f = record { place = matching_place K f.place; kept = option_map (store_in K) f.kept; lost = store_in K f.lost }

-- The crash that violates a failed assertion is that of its slice: the same kept store and byte, and the same lost ones.
abbrev pub SliceFails : Type 0
SliceFails = (T : Recording) (n : ℕ) (K : List ℕ) (f : Failure) → IsSlice T n K → IsFailureAt T n (Some f) → IsFailureAt (cut T K) (matching_place K n) (Some (failure_in K f))

-- ---- What is known once the events after a place were met, from an assertion back to there

-- Event k is a flush of line l after event m.
abbrev pub IsFlushAfter : Recording → ℕ → ℕ → ℕ → Type 0
IsFlushAfter T l m k = (m < k) × IsFlushOf T l k

-- Event k is a fence, of any thread, after event m.
abbrev pub IsAnyFenceAfter : Recording → ℕ → ℕ → Type 0
IsAnyFenceAfter T m k = (m < k) × ((t : ℕ) × IsAct T k (Fences t))

-- Event p completes a flush of line l after event m, and `flush` is the first such flush: of a fence the first one by its thread, of a
-- clflush the clflush itself.
pub data IsCompletion (T : Recording) (l m flush p : ℕ) : Type 0 where
  OfFence : (t : ℕ) → IsAct T p (Fences t) → IsFirstFlushBy T t l m flush → flush < p → IsCompletion T l m flush p
  OfClflush : IsAct T p (Clflushes l) → m < p → flush ≡ p → IsCompletion T l m flush p

-- Of line l this comes after event m, and before `past`.
pub record IsComing (T : Recording) (l m past : ℕ) (c : Coming) : Type 0 where
  pub flush : IsFirst (IsFlushAfter T l m) past c.flush
  pub fence : c.flush < past → IsFirst (IsAnyFenceAfter T c.flush) past c.fence
  pub safe : IsFirst (IsCompletedAfter T l m) past c.safe
  pub cover : c.safe < past → IsCompletion T l m c.cover c.safe

-- The same of each line that the range meets, and of the fences.
pub record IsScan (T : Recording) (A : Span) (m past : ℕ) (s : Scan) : Type 0 where
  pub meets : (b : ℕ) → InSpan A b → (s.first ≤ line_of T.format b) × (line_of T.format b < s.first + length s.lines.items)
  pub lines : (k : ℕ) (c : Coming) → slice_get s.lines.items k ≡ Some c → IsComing T (s.first + k) m past c
  pub threads : length s.fences ≡ 256
  pub fences : (t : ℕ) → t < 256 → IsFirst (IsFenceAfter T t m) past (slice_index s.fences t)
  pub fence : IsFirst (IsAnyFenceAfter T m) past s.fence

-- No event after event m up to event n stores to the byte at b.
abbrev pub IsUnwritten : Recording → ℕ → ℕ → ℕ → Type 0
IsUnwritten T m n b = (k l : ℕ) (w : Written) → m < k → k ≤ n → IsAct T k (Stores l w) → writes w b ≢ true

-- These are the bytes of the range to which no event after event m up to event n stores.
pub record AreUnwritten (T : Recording) (A : Span) (m n : ℕ) (u : Unwritten) : Type 0 where
  pub low : u.low ≡ A.addr
  pub size : length u.bytes.items ≡ A.len
  pub free : (k : ℕ) → k < A.len → slice_index_or u.bytes.items k false ≡ true → IsUnwritten T m n (A.addr + k)
  pub taken : (k : ℕ) → k < A.len → slice_index_or u.bytes.items k false ≡ false → ¬ IsUnwritten T m n (A.addr + k)

abbrev pub IsChosen : List Bool → ℕ → Type 0
IsChosen chosen k = is_kept_at chosen k ≡ true

-- Of each last store of the first n events to a byte of the range that comes after event m all that tells of it is chosen; and besides
-- this, only what was chosen before.
pub record HasChosen (T : Recording) (A : Span) (m n : ℕ) (before chosen : List Bool) : Type 0 where
  pub size : length chosen ≡ n
  pub stays : (k : ℕ) → IsChosen before k → IsChosen chosen k
  pub all : (l j k : ℕ) → IsLastIn T n A l j → m < j → Tells T n l j k → IsChosen chosen k
  pub just : (k : ℕ) → IsChosen chosen k → IsChosen before k ⊎ ((l : ℕ) × (j : ℕ) × IsLastIn T n A l j × Tells T n l j k)

-- All events after event m and up to the assertion at n were met, beginning with these choices.
pub record IsGoneBack (T : Recording) (A : Span) (m n : ℕ) (before : List Bool) (s : Scan) (u : Unwritten) (flags : List Bool) : Type 0 where
  pub scan : IsScan T A m (suc n) s
  pub unwritten : AreUnwritten T A m n u
  pub chosen : HasChosen T A m n before flags

-- ---- Events that are chosen besides others

-- The events with the property are chosen besides, those that have a flag.
pub record Chooses (P : ℕ → Type 0) (old new : List Bool) : Type 0 where
  pub size : length new ≡ length old
  pub stays : (k : ℕ) → IsChosen old k → IsChosen new k
  pub own : (k : ℕ) → 1 ≤ k → k ≤ length old → P k → IsChosen new k
  pub just : (k : ℕ) → IsChosen new k → IsChosen old k ⊎ P k

-- Number k is that of the store, or of what comes after it and tells of it, up to event n.
pub data IsOfStore (number : ℕ) (c : Coming) (n k : ℕ) : Type 0 where
  TheStore : k ≡ number → IsOfStore number c n k
  TheFlush : k ≡ c.flush → IsOfStore number c n k
  TheCompletion : c.safe ≤ n → k ≡ c.safe → IsOfStore number c n k
  TheCover : c.safe ≤ n → k ≡ c.cover → IsOfStore number c n k
  TheFence : c.fence ≤ c.safe → c.flush ≤ n → k ≡ c.fence → IsOfStore number c n k

-- Number k is that of the store that the crash keeps, or of what tells of the store that it loses.
abbrev pub IsOfFailure : Failure → Coming → ℕ → ℕ → Type 0
IsOfFailure f c n k = ((y : ByteStore) × (f.kept ≡ Some y) × (k ≡ y.store)) ⊎ IsOfStore f.lost.store c n k

-- ---- The slice of a store: the events by which it is lost, or late

-- Event j is this store, by thread t.
pub record IsStoreBy (T : Recording) (t : ℕ) (w : Written) (j : ℕ) : Type 0 where
  pub made : Event
  pub is_made : event T j ≡ Some made
  pub thread : made.thread ≡ t
  pub op : made.op ≡ Store w

-- The line of a store.
abbrev pub line_in : Recording → Written → ℕ
line_in T w = line_of T.format w.addr

-- Store j to line l, by thread t, is not safe after two later fences of its thread.
pub record IsLateStore (T : Recording) (t l j : ℕ) : Type 0 where
  pub first : ℕ
  pub second : ℕ
  pub is_first : IsAct T first (Fences t)
  pub is_second : IsAct T second (Fences t)
  pub after : j < first
  pub later : first < second
  pub unsafe : ¬ IsSafe T l second j

-- Event j is a store that is never persisted, or late.
pub data IsLostOrLate (T : Recording) (j : ℕ) : Type 0 where
  IsLost : (t : ℕ) (w : Written) → IsStoreBy T t w j → ¬ IsSafe T (line_in T w) (length T.events) j → IsLostOrLate T j
  IsLate : (t : ℕ) (w : Written) → IsStoreBy T t w j → IsLateStore T t (line_in T w) j → IsLostOrLate T j

-- Event k is one of the first two fences of thread t after event j.
pub record IsEarlyFence (T : Recording) (t j k : ℕ) : Type 0 where
  pub is_fence : IsAct T k (Fences t)
  pub after : j < k
  pub few : (a b : ℕ) → j < a → a < b → b < k → IsAct T a (Fences t) → ¬ IsAct T b (Fences t)

-- Event k tells of store j up to the end, or is one of the first two fences of its own thread after it, where it is not safe.
pub data IsInStoreSlice (T : Recording) (t l j k : ℕ) : Type 0 where
  OfStore : Tells T (length T.events) l j k → IsInStoreSlice T t l j k
  OwnFence : IsEarlyFence T t j k → ¬ IsSafe T l k j → IsInStoreSlice T t l j k

-- K is the rising list of these events.
pub record IsStoreSlice (T : Recording) (j : ℕ) (K : List ℕ) : Type 0 where
  pub thread : ℕ
  pub what : Written
  pub store : IsStoreBy T thread what j
  pub rising : IsRising 0 K
  pub just : (k : ℕ) → Has K k ↔ IsInStoreSlice T thread (line_in T what) j k

-- The store is as lost and as late in its slice as in the trace: safe at the same places, and else pending for the same cause; and late in
-- the one exactly if it is in the other.
pub record StoreSliceTells : Type 0 where
  pub safe : (T : Recording) (j q : ℕ) (K : List ℕ) (s : IsStoreSlice T j K) → q ≤ length T.events →
      IsSafe T (line_in T s.what) q j ↔ IsSafe (cut T K) (line_in T s.what) (matching_place K q) (matching_place K j)
  pub cause : (T : Recording) (j q : ℕ) (K : List ℕ) (c : Cause) (s : IsStoreSlice T j K) → q ≤ length T.events →
      IsCause T (line_in T s.what) q j c → IsCause (cut T K) (line_in T s.what) (matching_place K q) (matching_place K j) (cause_in K c)
  pub late : (T : Recording) (j : ℕ) (K : List ℕ) (s : IsStoreSlice T j K) →
      IsLateStore T s.thread (line_in T s.what) j ↔ IsLateStore (cut T K) s.thread (line_in T s.what) (matching_place K j)

-- ---- What comes after a store, up to the end of a trace

abbrev pub is_fence : Op → Bool
is_fence (Store w) = false
is_fence (Clwb a) = false
is_fence (ClflushOpt a) = false
is_fence (Clflush a) = false
is_fence Sfence = true
is_fence Mfence = true
is_fence (IsPersist r) = false
is_fence (IsOrderedBefore r q) = false

-- This comes after this store at j, by thread t.
pub record IsFate (T : Recording) (t : ℕ) (w : Written) (j : ℕ) (f : Fate) : Type 0 where
  pub coming : IsComing T (line_in T w) j (past_of T) f.coming
  pub first : IsFirst (IsFenceAfter T t j) (past_of T) f.first
  pub second : IsFirst (IsFenceAfter T t f.first) (past_of T) f.second

-- Number k is that of the store, of what tells of it, or of one of the two fences, where the store is not safe.
abbrev pub IsOfFate : ℕ → Fate → ℕ → ℕ → Type 0
IsOfFate number f n k = IsOfStore number f.coming n k ⊎ (((f.first < f.coming.safe) × (k ≡ f.first)) ⊎ ((f.second < f.coming.safe) × (k ≡ f.second)))
