-- A part of a long trace, and what the trace cut to it owes to the whole.
use Rattle.std.specs.Prelude.{ℕ, ◌<◌, ◌≤◌, ◌⊎◌, ◌↔◌, List, length, ◌≡◌, zero, suc, ◌+◌, ◌-◌, [], ◌∷◌, ◌++◌, Option, Some, None}
use Rattle.pmt_laws.specs.Prelude.{Written, Span, IsFormat, Stores, Flushes, Fences, Recording, IsEventIn, IsAct, count_at, front_at, IsRising, Has, Image, image_of, history, CrashAt, VectorsAt, cut, matching_place, PersistPasses, OrderedPasses, IsNeverPersisted, IsFlushedAfter, IsRedundantFlush, IsRedundantClflush, IsEmptyFence, IsOverwritten, IsKept, AllByRecursion}
use Rattle.pmt_safety.specs.Safety.{IsLastIn}

-- A trace of any length: its format is one of the two, and each event is within its limits and in the format. A trace with at most
-- `event_limit` such events is a trace of the text.
pub record IsWellFormed (T : Recording) : Type 0 where
  pub format : IsFormat T.format
  pub each : AllByRecursion (IsEventIn T.format) T.events

-- Event k is a store that is pending at place q: its rank is above the front of its line there, so a crash may lose it.
pub record IsPending (T : Recording) (q k : ℕ) : Type 0 where
  pub line : ℕ
  pub what : Written
  pub is_store : IsAct T k (Stores line what)
  pub by_now : k ≤ q
  pub above : front_at T line q < count_at T line k

-- Event k is the last flush of its line by its thread up to place q, and the thread has not fenced since.
pub record IsLastOpen (T : Recording) (q k : ℕ) : Type 0 where
  pub thread : ℕ
  pub line : ℕ
  pub is_flush : IsAct T k (Flushes thread line)
  pub by_now : k ≤ q
  pub last : (j : ℕ) → k < j → j ≤ q → ¬ IsAct T j (Flushes thread line)
  pub unfenced : (j : ℕ) → k < j → j ≤ q → ¬ IsAct T j (Fences thread)

abbrev pub IsCarried : Recording → ℕ → ℕ → Type 0
IsCarried T q k = IsPending T q k ⊎ IsLastOpen T q k

-- C is the carry at place q: the rising list of the events that are carried.
pub record IsCarry (T : Recording) (q : ℕ) (C : List ℕ) : Type 0 where
  pub rising : IsRising 0 C
  pub just : (k : ℕ) → Has C k ↔ IsCarried T q k

-- K is the part of the stretch (q, r]: the rising list of the carry at place q and of events q + 1 to r. The trace cut to it is shorter
-- than the first r events by what is safe at q, and by the flushes and fences that nothing waits for.
pub record IsPart (T : Recording) (q r : ℕ) (K : List ℕ) : Type 0 where
  pub order : q ≤ r
  pub within : r ≤ length T.events
  pub rising : IsRising 0 K
  pub just : (k : ℕ) → Has K k ↔ (IsCarried T q k ⊎ ((q < k) × (k ≤ r)))

-- An isOrderedBefore at place n is set aside if the last store to some byte of its second range comes by place q: whether the stores to
-- the first range were safe when it came is not in the part.
pub record IsSetAside (T : Recording) (q n : ℕ) (B : Span) : Type 0 where
  pub line : ℕ
  pub store : ℕ
  pub is_last : IsLastIn T n B line store
  pub old : store ≤ q

-- Whether event k is kept is decided by place r: if it is a flush, its thread has fenced since.
pub record IsDecidedBy (T : Recording) (r k : ℕ) : Type 0 where
  pub fenced : (t l : ℕ) → IsAct T k (Flushes t l) → (j : ℕ) × (k < j) × (j ≤ r) × IsAct T j (Fences t)

-- ---- What the trace cut to a part owes to the whole

-- The numbers of the n events after place q.
abbrev pub stretch : ℕ → ℕ → List ℕ
stretch q zero = []
stretch q (suc n) = suc q ∷ stretch (suc q) n

-- The carry at place q, followed by the numbers of events q + 1 to r, is the part.
abbrev pub PartIsMade : Type 0
PartIsMade = (T : Recording) (q r : ℕ) (C : List ℕ) → IsCarry T q C → q ≤ r → r ≤ length T.events → IsPart T q r (C ++ stretch q (r - q))

-- At each place of the stretch the front of a line, and its count of stores, is the whole's less the front at place q, or 0 where the
-- whole's is no greater.
pub record PartFronts : Type 0 where
  pub front : (T : Recording) (q r : ℕ) (K : List ℕ) (l n : ℕ) → IsPart T q r K → n ≤ r → front_at (cut T K) l (matching_place K n) ≡ front_at T l n - front_at T l q
  pub count : (T : Recording) (q r : ℕ) (K : List ℕ) (l n : ℕ) → IsPart T q r K → n ≤ r → count_at (cut T K) l (matching_place K n) ≡ count_at T l n - front_at T l q

-- So a crash in the stretch may leave just the counts of persisted stores that the part may leave, with the front at place q added.
pub record PartVectors : Type 0 where
  pub least : (T : Recording) (q n l : ℕ) (v : ℕ → ℕ) → q ≤ n → VectorsAt T n v → front_at T l q ≤ v l
  pub same : (T : Recording) (q r : ℕ) (K : List ℕ) (n : ℕ) (v : ℕ → ℕ) → IsPart T q r K → q ≤ n → n ≤ r →
      VectorsAt (cut T K) (matching_place K n) v ↔ VectorsAt T n (λ l. v l + front_at T l q)

-- The byte of the first memory, or that of the second where it has none.
abbrev pub upon : Option ℕ → Option ℕ → Option ℕ
upon None below = below
upon (Some byte) below = Some byte

-- Memory with just what is safe at place q.
abbrev pub safe_image : Recording → ℕ → Image
safe_image T q = image_of (λ l. front_at T l q) (history T q)

-- A crash in the stretch may leave just the images that the part may leave, upon memory with what is safe at place q: that is the image of
-- a crash there.
pub record PartImages : Type 0 where
  pub pool : (T : Recording) (q : ℕ) → CrashAt T q (safe_image T q)
  pub same : (T : Recording) (q r : ℕ) (K : List ℕ) (n : ℕ) (image : Image) → IsWellFormed T → IsPart T q r K → q ≤ n → n ≤ r →
      CrashAt T n image ↔ ((own : Image) × CrashAt (cut T K) (matching_place K n) own × ((a : ℕ) → image a ≡ upon (own a) (safe_image T q a)))

-- isPersist in the stretch: the verdict of the part is the whole's.
abbrev pub PartPersists : Type 0
PartPersists =
    (T : Recording) (q r : ℕ) (K : List ℕ) (n : ℕ) (A : Span) → IsWellFormed T → IsPart T q r K → q ≤ n → n ≤ r →
    PersistPasses (history T n) A ↔ PersistPasses (history (cut T K) (matching_place K n)) A

-- isOrderedBefore in the stretch: the verdict of the part is the whole's, unless it is set aside.
abbrev pub PartOrders : Type 0
PartOrders =
    (T : Recording) (q r : ℕ) (K : List ℕ) (n : ℕ) (A B : Span) → IsWellFormed T → IsPart T q r K → q ≤ n → n ≤ r → ¬ IsSetAside T q n B →
    OrderedPasses (history T n) A B ↔ OrderedPasses (history (cut T K) (matching_place K n)) A B

-- An isOrderedBefore fails if the last store to some byte of its first range is in the part, and that to some byte of its second range is not.
abbrev pub PartAsideFails : Type 0
PartAsideFails =
    (T : Recording) (q r : ℕ) (K : List ℕ) (n : ℕ) (A B : Span) (l j k i : ℕ) → IsPart T q r K → q ≤ n → n ≤ r → IsLastIn T n A l j → IsLastIn T n B k i →
    Has K j → ¬ Has K i → ¬ OrderedPasses (history T n) A B

-- A store is overwritten by a store of the stretch exactly if it is in the part, and overwritten there.
abbrev pub PartOverwrites : Type 0
PartOverwrites =
    (T : Recording) (q r : ℕ) (K : List ℕ) (j i : ℕ) → IsWellFormed T → IsPart T q r K → q < i → i ≤ r →
    IsOverwritten T j i ↔ (Has K j × IsOverwritten (cut T K) (matching_place K j) (matching_place K i))

-- A flush of the stretch is redundant exactly if it is so in the part.
abbrev pub PartRedundantFlush : Type 0
PartRedundantFlush =
    (T : Recording) (q r : ℕ) (K : List ℕ) (t l i : ℕ) → IsPart T q r K → q < i → i ≤ r →
    IsRedundantFlush T t l i ↔ IsRedundantFlush (cut T K) t l (matching_place K i)

-- A clflush of the stretch is redundant exactly if it is so in the part.
abbrev pub PartRedundantClflush : Type 0
PartRedundantClflush =
    (T : Recording) (q r : ℕ) (K : List ℕ) (l i : ℕ) → IsPart T q r K → q < i → i ≤ r →
    IsRedundantClflush T l i ↔ IsRedundantClflush (cut T K) l (matching_place K i)

-- A fence of the stretch comes without flush exactly if it does so in the part.
abbrev pub PartEmptyFence : Type 0
PartEmptyFence =
    (T : Recording) (q r : ℕ) (K : List ℕ) (i : ℕ) → IsPart T q r K → q < i → i ≤ r →
    IsEmptyFence T i ↔ IsEmptyFence (cut T K) (matching_place K i)

-- Of the events of the part, carried flushes among them, those are kept in the part that are kept in the whole, where this is decided by the
-- end of the stretch.
abbrev pub PartKeeps : Type 0
PartKeeps =
    (T : Recording) (q r : ℕ) (K : List ℕ) (k : ℕ) → IsPart T q r K → Has K k → k ≤ r → IsDecidedBy T r k →
    IsKept T k ↔ IsKept (cut T K) (matching_place K k)

-- Of the last part: a store of the whole is never persisted in some run exactly if it is in the part, carried or not, and is so there.
abbrev pub PartNeverPersists : Type 0
PartNeverPersists =
    (T : Recording) (q : ℕ) (K : List ℕ) (l k : ℕ) (w : Written) → IsPart T q (length T.events) K → IsAct T k (Stores l w) →
    IsNeverPersisted T l k ↔ (Has K k × IsNeverPersisted (cut T K) l (matching_place K k))

-- And its line is flushed after it exactly if it is so in the part.
abbrev pub PartFlushedAfter : Type 0
PartFlushedAfter =
    (T : Recording) (q : ℕ) (K : List ℕ) (l k : ℕ) (w : Written) → IsPart T q (length T.events) K → Has K k → IsAct T k (Stores l w) →
    IsFlushedAfter T l k ↔ IsFlushedAfter (cut T K) l (matching_place K k)

-- What is carried at the end of the stretch is what the part carries at its own end. So the parts of a trace can be made one from another.
abbrev pub PartCarries : Type 0
PartCarries =
    (T : Recording) (q r : ℕ) (K : List ℕ) (k : ℕ) → IsPart T q r K →
    IsCarried T r k ↔ (Has K k × IsCarried (cut T K) (matching_place K r) (matching_place K k))
