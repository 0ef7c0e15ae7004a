-- How often a place that stores to an address while a flush is open does so with nothing open.
use Rattle.std.specs.Prelude.{◌≡◌, ◌≢◌, ◌⊎◌, ℕ, suc, zero, ◌+◌, ◌-◌, ◌^◌, ◌<◌, ◌==◌, ◌&&◌, ◌||◌, Bool, true, false, not, if◌then◌else◌, nat_eq, List, length, map, Option, None, Some, unwrap_or, slice_get, slice_index_or}
use Rattle.std.specs.declared.hash.FoldHasher.{FoldHasher}
use Rattle.std.specs.declared.hash.BuildHasherDefault.{BuildHasherDefault}
use Rattle.std.specs.HashMap.{HashMap, get}
use Rattle.pmt_laws.specs.Prelude.{Event, Op, Store, Layout, Act, Stores, Flushes, Clflushes, Fences, Asserts, Recording, IsAct, IsKept, act, event, list_any, Clwb, ClflushOpt, Clflush, Sfence, Mfence, IsPersist, IsOrderedBefore}
use Rattle.pmt_explain.specs.Following.{IsFirst, past_of}
use Rattle.pmt_causes.specs.declared.failure_keys.Origin.{Origin}
use Rattle.pmt_causes.specs.declared.failure_keys.Origin.TheVariants.{Label, Thread}
use Rattle.pmt_causes.specs.Groups.{origin_of}
use Rattle.pmt_hints.specs.declared.contrast.Contrast.{Contrast}
use Rattle.pmt_hints.specs.declared.contrast.Spot.{Spot}
use Rattle.pmt_hints.specs.declared.hint.Hint.{Hint}
use Rattle.pmt_hints.specs.declared.hint.HintKind.{HintKind}
use Rattle.pmt_hints.specs.declared.hint.HintKind.TheVariants.{OpenAtStore}
use Rattle.pmt_hints.specs.declared.next_stores.NextStores.{NextStores}
use Rattle.pmt_hints.specs.declared.per_thread.PerThread.{PerThread}
use Rattle.pmt_hints.specs.Hints.{IsOpenFlush, IsStoreBy}
use Rattle.pmt_hints.specs.Numbers.{elsewhere_at, of_thread}
use Rattle.pmt_hints.specs.declared.places.Places.{Places}
use Rattle.pmt_causes.specs.contracts.failure_keys.OriginPartialEq.TheImpl as origin_eq
use Rattle.pmt_hints.specs.contracts.contrast.SpotPartialEq.TheImpl as spot_eq

-- Event j is a store by thread t after event i, to another line than l.
abbrev pub IsStoreElsewhere : Recording → ℕ → ℕ → ℕ → ℕ → Type 0
IsStoreElsewhere T t l i j = (i < j) × ((m : ℕ) × (m ≢ l) × IsStoreBy T t m j)

-- Of each flush the next store of its thread to another line, or the number past the end.
pub record AreNextStores (T : Recording) (nexts : List ℕ) : Type 0 where
  pub size : length nexts ≡ length T.events
  pub each : (k x t l : ℕ) → slice_get nexts k ≡ Some x → IsAct T (suc k) (Flushes t l) → IsFirst (IsStoreElsewhere T t l (suc k)) (past_of T) x

-- The spot of the event at i, if it is a store: its address, and its label or without one its thread.
abbrev pub op_spot : List (Option ℕ) → ℕ → ℕ → Op → Option Spot
op_spot labels i t (Store w) = Some (record { address = w.addr; place = origin_of labels i t })
op_spot labels i t o = None

abbrev pub spot_of : List (Option ℕ) → ℕ → Option Event → Option Spot
spot_of labels i None = None
spot_of labels i (Some e) = op_spot labels i e.thread e.op

abbrev pub is_spot : Spot → Option Spot → Bool
is_spot s None = false
is_spot s (Some r) = (spot_eq.ghosts).eq r s

-- Clear: thread t has made no flush that waits for a fence since its last fence, in the first n events.
abbrev pub clear_by : Act → ℕ → Bool → Bool
clear_by (Stores l w) t was = was
clear_by (Flushes u l) t was = not (u == t) && was
clear_by (Clflushes l) t was = was
clear_by (Fences u) t was = (u == t) || was
clear_by Asserts t was = was

abbrev pub clear_over : Layout → Option Event → ℕ → Bool → Bool
clear_over f None t was = was
clear_over f (Some e) t was = clear_by (act f e) t was

abbrev pub is_clear : Recording → ℕ → ℕ → Bool
is_clear T t zero = true
is_clear T t (suc n) = clear_over T.format (event T (suc n)) t (is_clear T t n)

-- Each store comes when its thread is clear.
abbrev pub StoresWhenClear : Recording → Type 0
StoresWhenClear T = (i t l : ℕ) → IsStoreBy T t l (suc i) → is_clear T t i ≡ true

-- No store, and one more, if it is one of the spot; it may be clear.
abbrev pub nothing : Contrast
nothing = record { clear = 0; all = 0 }

abbrev pub more : Bool → Bool → Contrast → Contrast
more false clear c = c
more true clear c = record { clear = if clear then c.clear + 1 else c.clear; all = c.all + 1 }

-- The event after the first n.
abbrev pub contrast_over : Recording → List (Option ℕ) → Spot → ℕ → Option Event → Contrast → Contrast
contrast_over T labels s n None c = c
contrast_over T labels s n (Some e) c = more (is_spot s (op_spot labels (suc n) e.thread e.op)) (is_clear T e.thread n) c

-- How many of the first n events are stores of spot s, and of these clear; and of all events.
abbrev pub contrast_upto : Recording → List (Option ℕ) → Spot → ℕ → Contrast
contrast_upto T labels s zero = nothing
contrast_upto T labels s (suc n) = contrast_over T labels s n (event T (suc n)) (contrast_upto T labels s n)

abbrev pub contrast_at : Recording → List (Option ℕ) → Spot → Contrast
contrast_at T labels s = contrast_upto T labels s (length T.events)

abbrev pub contrast_if : Recording → List (Option ℕ) → Option Spot → Contrast
contrast_if T labels None = nothing
contrast_if T labels (Some s) = contrast_at T labels s

-- The spot of what is stored while the first flush of a hint is open, if it is a hint of such flushes.
abbrev pub kind_spot : Recording → List (Option ℕ) → ℕ → HintKind → Option Spot
kind_spot T labels next OpenAtStore = spot_of labels next (event T next)
kind_spot T labels next kind = None

abbrev pub spot_in : Recording → List (Option ℕ) → List ℕ → Hint → Option Spot
spot_in T labels nexts h = kind_spot T labels (slice_index_or nexts (h.first - 1) 0) h.kind

-- The contrast of each of these hints.
abbrev pub AreContrasts : Recording → List (Option ℕ) → List Hint → List Contrast → Type 0
AreContrasts T labels hints contrasts = (nexts : List ℕ) × AreNextStores T nexts × (contrasts ≡ map (λ (h : Hint). contrast_if T labels (spot_in T labels nexts h)) hints)

-- By the next stores after it, that of an act which is a flush.
abbrev pub next_by : NextStores → Act → ℕ
next_by stores (Stores l w) = 0
next_by stores (Flushes t l) = elsewhere_at stores t l
next_by stores (Clflushes l) = 0
next_by stores (Fences t) = 0
next_by stores Asserts = 0

-- Thread t's flag, once the act is met: 1 for a flush, 0 for a fence.
abbrev pub open_by : Act → ℕ → ℕ → ℕ
open_by (Stores l w) t old = old
open_by (Flushes u l) t old = if u == t then 1 else old
open_by (Clflushes l) t old = old
open_by (Fences u) t old = if u == t then 0 else old
open_by Asserts t old = old

-- By these flags, the act by thread t is a store, and the thread is not clear.
abbrev pub stores_open : PerThread → ℕ → Act → Bool
stores_open waiting t (Stores l w) = not (of_thread waiting t == 0)
stores_open waiting t (Flushes u l) = false
stores_open waiting t (Clflushes l) = false
stores_open waiting t (Fences u) = false
stores_open waiting t Asserts = false

-- Counts by spot.
abbrev pub Counts : Type 0
Counts = HashMap Spot Contrast (BuildHasherDefault FoldHasher)

abbrev pub count_at : Counts → Spot → Option Contrast
count_at counts s = get (spot_eq.ghosts).eq counts s

-- The spot is one that these hints ask for.
abbrev pub is_asked : Recording → List (Option ℕ) → List ℕ → List Hint → Spot → Bool
is_asked T labels nexts hints s = list_any (λ (h : Hint). is_spot s (spot_in T labels nexts h)) hints

abbrev pub as_asked : Bool → Contrast → Option Contrast
as_asked false c = None
as_asked true c = Some c

abbrev pub asked_at : Bool → Option Contrast → Option Contrast
asked_at false old = old
asked_at true old = Some nothing

-- There is room for one more.
abbrev pub IsSmall : Contrast → Type 0
IsSmall c = (c.clear + 1 < 2 ^ 64) × (c.all + 1 < 2 ^ 64)

-- The contrast of a hint, by these counts.
abbrev pub counted_if : Counts → Option Spot → Contrast
counted_if counts None = nothing
counted_if counts (Some s) = unwrap_or (count_at counts s) nothing

abbrev pub contrast_by : Recording → List (Option ℕ) → List ℕ → Counts → Hint → Contrast
contrast_by T labels nexts counts h = counted_if counts (spot_in T labels nexts h)

-- ---- Of which places flushes are told as open at a store

-- The label is one of these places.
abbrev pub has_label : Places → ℕ → Bool
has_label places l = slice_index_or places.labels.items l (unwrap_or (get nat_eq places.rest l) false)

-- The place is one of these.
abbrev pub has_place : Places → Origin → Bool
has_place places (Label l) = has_label places l
has_place places (Thread t) = slice_index_or places.threads t false

-- The place of the event at i, if it is a flush that waits for a fence.
abbrev pub op_place : List (Option ℕ) → ℕ → ℕ → Op → Option Origin
op_place labels i t (Store w) = None
op_place labels i t (Clwb a) = Some (origin_of labels i t)
op_place labels i t (ClflushOpt a) = Some (origin_of labels i t)
op_place labels i t (Clflush a) = None
op_place labels i t Sfence = None
op_place labels i t Mfence = None
op_place labels i t (IsPersist r) = None
op_place labels i t (IsOrderedBefore r q) = None

abbrev pub place_of : List (Option ℕ) → ℕ → Option Event → Option Origin
place_of labels i None = None
place_of labels i (Some e) = op_place labels i e.thread e.op

abbrev pub is_place : Origin → Option Origin → Bool
is_place p None = false
is_place p (Some q) = (origin_eq.ghosts).eq q p

-- These are the places of the flushes with these numbers.
abbrev pub AreClosed : Recording → List (Option ℕ) → List ℕ → Places → Type 0
AreClosed T labels numbers closed = (p : Origin) → has_place closed p ≡ list_any (λ (i : ℕ). is_place p (place_of labels i (event T i))) numbers

-- These are the places of kept flushes that are not open at a store.
pub record AreShut (T : Recording) (labels : List (Option ℕ)) (closed : Places) : Type 0 where
  pub just : (p : Origin) → has_place closed p ≡ true → (j : ℕ) × (t : ℕ) × (l : ℕ) × IsKept T j × IsAct T j (Flushes t l) × (p ≡ origin_of labels j t) × (¬ IsOpenFlush T j)
  pub each : (j t l : ℕ) → IsKept T j → IsAct T j (Flushes t l) → IsOpenFlush T j ⊎ (has_place closed (origin_of labels j t) ≡ true)

abbrev pub is_closed : Places → Option Origin → Bool
is_closed closed None = false
is_closed closed (Some p) = has_place closed p

-- The place of the event at i is not closed.
abbrev pub told_so : Recording → List (Option ℕ) → Places → ℕ → Bool
told_so T labels closed i = not (is_closed closed (place_of labels i (event T i)))
