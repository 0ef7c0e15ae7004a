-- What hints are told of: each kind is a set of events, and each hint has its place.
use Rattle.std.specs.Prelude.{◌≡◌, ◌↔◌, ℕ, suc, Bool, true, List, length, slice_get, Some, ◌≢◌, ◌⊎◌, ◌+◌, ◌%◌, ◌<◌, ◌≤◌, Option, nat_le, filter, map, None}
use Rattle.pmt_laws.specs.Prelude.{Event, IsOrderedBefore, IsPersist, Store, Layout, Span, Written, Stores, Flushes, Fences, InSpan, OrderedPasses, PersistPasses, Recording, IsAct, act, event, history, IsFlushOf, last_store_number, IsKept, IsRising, Has}
use Rattle.pmt_explain.specs.Following.{IsSafePlace}
use Rattle.pmt_causes.specs.Groups.{origin_of, AreGrouped, first_in}
use Rattle.pmt_causes.specs.Late.{fences_between}
use Rattle.pmt_causes.specs.declared.failure_keys.Origin.{Origin}
use Rattle.pmt_causes.specs.declared.failure_keys.Origin.TheVariants.{Label, Thread}
use Rattle.pmt_causes.specs.declared.grouping.Group.{Group}
use Rattle.pmt_causes.specs.declared.grouping.Keyed.{Keyed}
use Rattle.pmt_hints.specs.declared.named.Role.{Role}
use Rattle.pmt_hints.specs.declared.named.Role.TheVariants.{Claimed, First, Second}
use Rattle.pmt_hints.specs.declared.hint.Hint.{Hint}
use Rattle.pmt_hints.specs.declared.hint.HintKind.{HintKind}

-- Of each of the first n events whether it has the property, the first one being event 1.
pub record AreFlags (P : ℕ → Type 0) (n : ℕ) (flags : List Bool) : Type 0 where
  pub size : length flags ≡ n
  pub each : (k : ℕ) (b : Bool) → slice_get flags k ≡ Some b → (b ≡ true) ↔ P (suc k)

-- ---- What hints are told of: each kind is a set of events

-- These are the events that have the property, in their order.
pub record AreThose (P : ℕ → Type 0) (numbers : List ℕ) : Type 0 where
  pub rising : IsRising 0 numbers
  pub just : (i : ℕ) → Has numbers i ↔ P i

-- Event i is a store to line l by thread t.
abbrev pub IsStoreBy : Recording → ℕ → ℕ → ℕ → Type 0
IsStoreBy T t l i = (e : Event) × (w : Written) × (event T i ≡ Some e) × (e.thread ≡ t) × (act T.format e ≡ Stores l w)

-- Thread t fences after event i and before event j.
abbrev pub FencesBetween : Recording → ℕ → ℕ → ℕ → Type 0
FencesBetween T t i j = (k : ℕ) × (i < k) × (k < j) × IsAct T k (Fences t)

-- Event i is a store to a line that its thread has flushed before and not fenced since.
pub record IsAfterOpenFlush (T : Recording) (i : ℕ) : Type 0 where
  pub thread : ℕ
  pub line : ℕ
  pub flush : ℕ
  pub is_store : IsStoreBy T thread line i
  pub is_flush : IsAct T flush (Flushes thread line)
  pub earlier : flush < i
  pub still_open : ¬ FencesBetween T thread flush i

-- Stored after its flush: no flush of the line, by any thread, stands between such a store and the next fence of its thread.
pub record IsStoredAfterFlush (T : Recording) (i : ℕ) : Type 0 where
  pub after : IsAfterOpenFlush T i
  pub not_again : (k : ℕ) → i < k → IsFlushOf T after.line k → FencesBetween T after.thread i k

-- Event i is a flush that its thread has not fenced when it stores to another line.
pub record IsOpenFlush (T : Recording) (i : ℕ) : Type 0 where
  pub thread : ℕ
  pub line : ℕ
  pub store : ℕ
  pub elsewhere : ℕ
  pub is_flush : IsAct T i (Flushes thread line)
  pub is_store : IsStoreBy T thread elsewhere store
  pub other : elsewhere ≢ line
  pub later : i < store
  pub still_open : ¬ FencesBetween T thread i store

-- Open at a store: such a flush that is kept.
abbrev pub IsOpenAtStore : Recording → ℕ → Type 0
IsOpenAtStore T i = IsKept T i × IsOpenFlush T i

-- Open at a store, as each kept flush of its place is; a place is a label, or without one a thread.
pub record IsOpenThroughout (T : Recording) (labels : List (Option ℕ)) (i : ℕ) : Type 0 where
  pub is_open : IsOpenAtStore T i
  pub all : (j t l : ℕ) → IsKept T j → IsAct T j (Flushes t l) → origin_of labels j t ≡ origin_of labels i (is_open.1).thread → IsOpenFlush T j

-- Event i is an isOrderedBefore of these ranges, and passes.
pub record PassesOrdered (T : Recording) (A B : Span) (i : ℕ) : Type 0 where
  pub assertion : Event
  pub is : event T i ≡ Some assertion
  pub op : assertion.op ≡ IsOrderedBefore A B
  pub passes : OrderedPasses (history T i) A B

-- Event i passes, and says that the bytes of A are saved: it is an isPersist of A, or an isOrderedBefore whose first range is A.
pub data ClaimsRange (T : Recording) (A : Span) (i : ℕ) : Type 0 where
  ByPersist : (e : Event) → event T i ≡ Some e → e.op ≡ IsPersist A → PersistPasses (history T i) A → ClaimsRange T A i
  ByOrdered : (B : Span) → PassesOrdered T A B i → ClaimsRange T A i

-- Event i passes, and A is its range of this role.
abbrev pub Names : Recording → Role → Span → ℕ → Type 0
Names T Claimed A i = ClaimsRange T A i
Names T First A i = (B : Span) × PassesOrdered T A B i
Names T Second B i = (A : Span) × PassesOrdered T A B i

-- Store i is the last one to a byte of a range of this role, as of its assertion.
pub record IsNamed (T : Recording) (role : Role) (i : ℕ) : Type 0 where
  pub range : Span
  pub assertion : ℕ
  pub byte : ℕ
  pub names : Names T role range assertion
  pub inside : InSpan range byte
  pub last : last_store_number byte (history T assertion) ≡ Some i

-- Of each event, in order, whether it is a store that is claimed.
abbrev pub AreClaimedStores : Recording → List Bool → Type 0
AreClaimedStores T flags = AreFlags (IsNamed T Claimed) (length T.events) flags

-- Flush j of line l is excused: a store to the line is claimed, and no kept flush of the line comes between that store and j, so that it is
-- this flush that saves it.
pub record IsExcused (T : Recording) (l j : ℕ) : Type 0 where
  pub store : ℕ
  pub thread : ℕ
  pub is_store : IsStoreBy T thread l store
  pub earlier : store < j
  pub not_flushed : (k : ℕ) → store < k → k < j → IsKept T k → ¬ IsFlushOf T l k
  pub claimed : IsNamed T Claimed store

-- Open at a store, as it is told: only where no kept flush of the place is excused.
pub record IsToldOpen (T : Recording) (labels : List (Option ℕ)) (i : ℕ) : Type 0 where
  pub throughout : IsOpenThroughout T labels i
  pub unexcused : (j t l : ℕ) → IsKept T j → IsAct T j (Flushes t l) → origin_of labels j t ≡ origin_of labels i (throughout.is_open.1).thread → ¬ IsExcused T l j

-- Open at a store, as it is told of a call path alone: so is each kept flush of the path, but not each one of the place. Paths are numbers
-- of whole labels, in the form of `labels`.
abbrev pub IsToldOnPath : Recording → List (Option ℕ) → List (Option ℕ) → ℕ → Type 0
IsToldOnPath T labels paths i = IsToldOpen T paths i × (¬ IsOpenThroughout T labels i)

-- Event i is this store by thread t.
abbrev pub IsStoreOf : Recording → ℕ → Written → ℕ → Type 0
IsStoreOf T t w i = event T i ≡ Some (record { thread = t; op = Store w })

-- The second store's bytes follow those of the first one, at most 8 together, and they meet at a line's first byte.
pub record Joins (f : Layout) (a b : Written) : Type 0 where
  pub follows : a.addr + length a.bytes ≡ b.addr
  pub word : length a.bytes + length b.bytes ≤ 8
  pub line : b.addr % f.line_size ≡ 0

-- Split word: event i is a store, and joins the store that its thread made before it, from the same place.
pub record IsSplitWord (T : Recording) (labels : List (Option ℕ)) (i : ℕ) : Type 0 where
  pub thread : ℕ
  pub earlier : ℕ
  pub first : Written
  pub second : Written
  pub is_first : IsStoreOf T thread first earlier
  pub is_second : IsStoreOf T thread second i
  pub order : earlier < i
  pub none_between : (k : ℕ) (w : Written) → earlier < k → k < i → ¬ IsStoreOf T thread w k
  pub joined : Joins T.format first second ⊎ Joins T.format second first
  pub same_place : origin_of labels earlier thread ≡ origin_of labels i thread

-- Store i to line l by thread t is lost or late: fences of its thread after it leave it unsafe, two of them, or one if it is safe from no
-- place of the trace on.
abbrev pub IsLostOrLate : Recording → ℕ → ℕ → ℕ → Type 0
IsLostOrLate T t l i = (p : ℕ) × IsSafePlace T l i p × ((2 ≤ fences_between T t i p) ⊎ ((1 ≤ fences_between T t i p) × (length T.events < p)))

-- Event i goes on from line l: it is a store by thread t to the line right after l, and the store that the thread made before it is one
-- to line l. Both come from the same place, or the bytes of the one are followed by those of the other.
pub record GoesOn (T : Recording) (labels : List (Option ℕ)) (t l i : ℕ) : Type 0 where
  pub earlier : ℕ
  pub is_earlier : IsStoreBy T t l earlier
  pub is_store : IsStoreBy T t (suc l) i
  pub order : earlier < i
  pub none_between : (k m : ℕ) → earlier < k → k < i → ¬ IsStoreBy T t m k
  pub joined : (origin_of labels earlier t ≡ origin_of labels i t) ⊎ ((is_earlier.1).addr + length (is_earlier.1).bytes ≡ (is_store.1).addr)

-- One line short: event i flushes a line from which a store before it goes on, and that store is lost or late. So the run of lines that the
-- thread flushes by its next fence, of one line or more, ends with this line. The two come with no fence of the thread between them, and
-- no store of the thread since that fence goes on from the line right after: what was stored ends there, one line behind the run.
pub record IsOneLineShort (T : Recording) (labels : List (Option ℕ)) (i : ℕ) : Type 0 where
  pub thread : ℕ
  pub line : ℕ
  pub rest : ℕ
  pub is_flush : IsAct T i (Flushes thread line)
  pub goes_on : GoesOn T labels thread line rest
  pub missed : IsLostOrLate T thread (suc line) rest
  pub earlier : rest < i
  pub still_open : ¬ FencesBetween T thread rest i
  pub ends : (k : ℕ) → GoesOn T labels thread (suc line) k → k < i → FencesBetween T thread k i

-- Stored after a mark, which is the last store to a byte of the second range of an isOrderedBefore that passes: event i is a store by the
-- thread and from the place of the mark, to another address, and the thread does not fence between them. It is no mark, and in no first
-- range: a crash can keep the mark and lose it.
pub record IsStoredAfterMark (T : Recording) (labels : List (Option ℕ)) (i : ℕ) : Type 0 where
  pub thread : ℕ
  pub mark : ℕ
  pub first : Written
  pub second : Written
  pub is_first : IsStoreOf T thread first mark
  pub is_second : IsStoreOf T thread second i
  pub is_mark : IsNamed T Second mark
  pub order : mark < i
  pub still_open : ¬ FencesBetween T thread mark i
  pub same_place : origin_of labels mark thread ≡ origin_of labels i thread
  pub elsewhere : first.addr ≢ second.addr
  pub no_mark : ¬ IsNamed T Second i
  pub no_first : ¬ IsNamed T First i

-- ---- Hints by kind and place

abbrev pub origin_in : List (Option ℕ) → ℕ → Option Event → Origin
origin_in labels i None = Thread 0
origin_in labels i (Some e) = origin_of labels i e.thread

-- Event i with its place: its label, or without one its thread.
abbrev pub placed : Recording → List (Option ℕ) → ℕ → Keyed Origin
placed T labels i = record { key = origin_in labels i (event T i); number = i }

-- The hint of this kind of the events in the group.
abbrev pub hint_in : HintKind → Group Origin → Hint
hint_in kind g = record { kind = kind; place = g.key; path = None; count = length g.members.items; first = first_in g }

-- A hint of this kind for each place of these events.
abbrev pub AreHintsOf : Recording → List (Option ℕ) → HintKind → List ℕ → List Hint → Type 0
AreHintsOf T labels kind numbers hints = (groups : List (Group Origin)) × AreGrouped (map (placed T labels) numbers) groups × (hints ≡ map (hint_in kind) groups)

-- The label that a path is.
abbrev pub path_of : Origin → Option ℕ
path_of (Label l) = Some l
path_of (Thread t) = None

-- The hint of this kind of the events of one path: its place is that of the first of them.
abbrev pub path_hint_in : Recording → List (Option ℕ) → HintKind → Group Origin → Hint
path_hint_in T labels kind g =
    record { kind = kind; place = origin_in labels (first_in g) (event T (first_in g)); path = path_of g.key; count = length g.members.items; first = first_in g }

-- There are enough events not to be chance.
abbrev pub is_enough : Group Origin → Bool
is_enough g = nat_le 3 (length g.members.items)

-- A hint of this kind for each path from which enough of these events come.
abbrev pub ArePathHintsOf : Recording → List (Option ℕ) → List (Option ℕ) → HintKind → List ℕ → List Hint → Type 0
ArePathHintsOf T labels paths kind numbers hints =
    (groups : List (Group Origin)) × AreGrouped (map (placed T paths) numbers) groups × (hints ≡ map (path_hint_in T labels kind) (filter is_enough groups))
