-- The places of the source: what each of them has, event by event, and in which order they are told.
use Rattle.std.specs.Prelude.{◌≡◌, ℕ, ◌+◌, ◌-◌, ◌*◌, ◌/◌, ◌^◌, ◌<◌, ◌≤◌, ◌⊎◌, ◌==◌, if◌then◌else◌, nat_lt, zero, suc, Bool, true, false, List, [], ◌∷◌, ◌++◌, length, map, reverse, Option, None, Some, slice_get, slice_index, unwrap_or, nat_eq, slice_index_or, ◌&&◌, ◌||◌, not, nat_le, filter}
use Rattle.pmt_laws.specs.Prelude.{Event, Op, Recording, event, All, count_by, find, sum_by, IsPermutation, list_any}
use Rattle.pmt_causes.specs.declared.failure_keys.Origin.{Origin}
use Rattle.pmt_causes.specs.declared.failure_keys.Origin.TheVariants.{Thread, Label}
use Rattle.pmt_causes.specs.declared.grouping.Group.{Group}
use Rattle.pmt_causes.specs.declared.grouping.Keyed.{Keyed}
use Rattle.pmt_causes.specs.Late.{counted, is_fence, is_flush, is_store, op_passes}
use Rattle.pmt_causes.specs.Groups.{origin_of, AreGrouped}
use Rattle.std.specs.HashMap.{get}
use Rattle.pmt_fates.specs.declared.place_row.PlaceRow.{PlaceRow}
use Rattle.pmt_fates.specs.declared.standing.Standing.{Standing}
use Rattle.pmt_fates.specs.declared.standing.Standing.TheVariants.{LosesSome, DelaysSome, DelaysAll, LosesAll, Keeps}
use Rattle.pmt_fates.specs.declared.fate.Fate.{Fate}
use Rattle.pmt_fates.specs.declared.saved_before.SavedBefore.{SavedBefore}
use Rattle.pmt_fates.specs.Fates.{AreFates, TellsSaved}
use Rattle.pmt_fates.specs.declared.row_places.RowPlaces.{RowPlaces}
use Rattle.pmt_fates.specs.declared.fate.Fate.TheVariants as fate
use Rattle.pmt_causes.specs.contracts.failure_keys.OriginPartialEq.TheImpl as origin_eq

-- How many stores the place has that are not left out.
abbrev pub judged : PlaceRow → ℕ
judged r = r.stores - r.ignored

-- How the place stands by what becomes of these stores.
abbrev pub standing : PlaceRow → Standing
standing r =
    if nat_lt 0 r.lost then if nat_lt r.lost (judged r) then LosesSome else LosesAll
    else if nat_lt 0 r.late then if nat_lt r.late (judged r) then DelaysSome else DelaysAll
    else Keeps

-- In this order they are told.
abbrev pub step : Standing → ℕ
step LosesSome = 0
step DelaysSome = 1
step DelaysAll = 2
step LosesAll = 3
step Keeps = 4

-- Less for more.
abbrev pub most : ℕ → ℕ
most n = 2 ^ 96 - 1 - n

-- The share of them that it loses, in whole millionths.
abbrev pub share : PlaceRow → ℕ
share r = if judged r == 0 then 0 else r.lost * 1000000 / judged r

-- Of places that stand alike: those first that lose the smallest share, or that have most late stores, most lost
-- ones, or most flushes and fences that do nothing. It is below 2 ^ 96.
abbrev pub weight : Standing → PlaceRow → ℕ
weight LosesSome r = share r
weight DelaysSome r = most r.late
weight DelaysAll r = most r.late
weight LosesAll r = most r.lost
weight Keeps r = most (r.idle_flushes + r.idle_fences)

-- By how they stand, and then by weight.
abbrev pub rank : PlaceRow → ℕ
rank r = step (standing r) * 2 ^ 96 + weight (standing r) r

-- The first place is told before the second one: it has the lower rank, or the same and no later first event.
abbrev pub ComesBefore : PlaceRow → PlaceRow → Type 0
ComesBefore r s = (rank r < rank s) ⊎ ((rank r ≡ rank s) × (r.first ≤ s.first))

-- ---- The places of the source, and what each of them has

abbrev pub origin_in : List (Option ℕ) → ℕ → Option Event → Origin
origin_in labels i None = Thread 0
origin_in labels i (Some e) = origin_of labels i e.thread

-- The first n events, each with its place: its label, or without one its thread.
abbrev pub place_items : Recording → List (Option ℕ) → ℕ → List (Keyed Origin)
place_items T labels zero = []
place_items T labels (suc n) = place_items T labels n ++ record { key = origin_in labels (suc n) (event T (suc n)); number = suc n } ∷ []

abbrev pub is_same : Fate → Fate → Bool
is_same fate.Lost fate.Lost = true
is_same fate.Ignored fate.Ignored = true
is_same fate.Late fate.Late = true
is_same fate.Left fate.Left = true
is_same fate.InTime fate.InTime = true
is_same fate.Flush fate.Flush = true
is_same fate.IdleFlush fate.IdleFlush = true
is_same fate.Fence fate.Fence = true
is_same fate.IdleFence fate.IdleFence = true
is_same fate.Claim fate.Claim = true
is_same f g = false

abbrev pub is_store_fate : Fate → Bool
is_store_fate fate.Lost = true
is_store_fate fate.Ignored = true
is_store_fate fate.Late = true
is_store_fate fate.Left = true
is_store_fate fate.InTime = true
is_store_fate f = false

-- It becomes of a store that is told as never persisted, or is late.
abbrev pub is_missed : Fate → Bool
is_missed fate.Lost = true
is_missed fate.Late = true
is_missed f = false

-- It becomes of a store that is persisted in time.
abbrev pub is_in_time : Fate → Bool
is_in_time fate.Left = true
is_in_time fate.InTime = true
is_in_time f = false

abbrev pub is_flush_fate : Fate → Bool
is_flush_fate fate.Flush = true
is_flush_fate fate.IdleFlush = true
is_flush_fate f = false

abbrev pub is_fence_fate : Fate → Bool
is_fence_fate fate.Fence = true
is_fence_fate fate.IdleFence = true
is_fence_fate f = false

-- What becomes of event i.
abbrev pub fate_at : List Fate → ℕ → Fate
fate_at fates zero = fate.Claim
fate_at fates (suc k) = unwrap_or (slice_get fates k) fate.Claim

-- How many of these events have such a fate, and the first and the last one that have.
abbrev pub count_in : List Fate → (Fate → Bool) → List ℕ → ℕ
count_in fates is members = count_by (λ (i : ℕ). is (fate_at fates i)) members

abbrev pub find_in : List Fate → (Fate → Bool) → List ℕ → Option ℕ
find_in fates is members = find (λ (i : ℕ). is (fate_at fates i)) members

abbrev pub find_last_in : List Fate → (Fate → Bool) → List ℕ → Option ℕ
find_last_in fates is members = find_in fates is (reverse members)

-- What a crash keeps without the event, if there is one.
abbrev pub saved_at : (ℕ → Option SavedBefore) → Option ℕ → Option SavedBefore
saved_at saved None = None
saved_at saved (Some i) = saved i

-- What the place has whose events these are, where a crash keeps this without an event.
abbrev pub row_in : List Fate → (ℕ → Option SavedBefore) → Group Origin → PlaceRow
row_in fates saved g = record {
  place = g.key;
  first = slice_index g.members.items 0;
  stores = count_in fates is_store_fate g.members.items;
  lost = count_in fates (is_same fate.Lost) g.members.items;
  ignored = count_in fates (is_same fate.Ignored) g.members.items;
  late = count_in fates (is_same fate.Late) g.members.items;
  in_time = count_in fates is_in_time g.members.items;
  left = count_in fates (is_same fate.Left) g.members.items;
  flushes = count_in fates is_flush_fate g.members.items;
  idle_flushes = count_in fates (is_same fate.IdleFlush) g.members.items;
  fences = count_in fates is_fence_fate g.members.items;
  idle_fences = count_in fates (is_same fate.IdleFence) g.members.items;
  first_lost = find_in fates (is_same fate.Lost) g.members.items;
  first_late = find_in fates (is_same fate.Late) g.members.items;
  last_missed = find_last_in fates is_missed g.members.items;
  first_left = find_in fates (is_same fate.Left) g.members.items;
  saved_before = saved_at saved (find_in fates (is_same fate.Left) g.members.items);
}

-- These are the rows, each as it was, in the order in which places are told.
pub record AreInOrder (given rows : List PlaceRow) : Type 0 where
  pub same : IsPermutation given rows
  pub order : (k : ℕ) (r s : PlaceRow) → slice_get rows k ≡ Some r → slice_get rows (suc k) ≡ Some s → ComesBefore r s

-- A row for each place of the trace, in their order: its events are those in its group, and each event is in one group. These stores are
-- told as never persisted, and these events are dropped. What a crash keeps is told of the stores that one fence leaves unsafe.
pub record ArePlaces (T : Recording) (labels : List (Option ℕ)) (told dropped : List ℕ) (rows : List PlaceRow) : Type 0 where
  pub fates : List Fate
  pub are_fates : AreFates T told dropped fates
  pub saved : ℕ → Option SavedBefore
  pub are_saved : (i : ℕ) → is_same fate.Left (fate_at fates i) ≡ true → TellsSaved T i (saved i)
  pub groups : List (Group Origin)
  pub grouped : AreGrouped (place_items T labels (length T.events)) groups
  pub in_order : AreInOrder (map (row_in fates saved) groups) rows

-- How many events of the trace have such an op.
abbrev pub ops_with : Recording → (Op → Bool) → ℕ
ops_with T is = counted (λ i. op_passes is (event T i)) (length T.events)

-- Each store of a place has one fate, and all places together have the stores, flushes and fences of the trace.
pub record AddUp (T : Recording) (rows : List PlaceRow) : Type 0 where
  pub fates : All (λ (r : PlaceRow). r.stores ≡ r.lost + r.ignored + r.late + r.in_time) rows
  pub stores : sum_by (λ (r : PlaceRow). r.stores) rows ≡ ops_with T is_store
  pub flushes : sum_by (λ (r : PlaceRow). r.flushes) rows ≡ ops_with T is_flush
  pub fences : sum_by (λ (r : PlaceRow). r.fences) rows ≡ ops_with T is_fence

-- Of each store that one fence leaves unsafe this is what a crash keeps.
abbrev pub AreSaved : Recording → List Fate → (ℕ → Option SavedBefore) → Type 0
AreSaved T fates saved = (i : ℕ) → is_same fate.Left (fate_at fates i) ≡ true → TellsSaved T i (saved i)

-- These are the rows of the places, if this becomes of the events, and a crash keeps this without a store.
abbrev pub ArePlacesBy : Recording → List (Option ℕ) → List Fate → (ℕ → Option SavedBefore) → List PlaceRow → Type 0
ArePlacesBy T labels fates saved rows = (told dropped : List ℕ) → AreFates T told dropped fates → AreSaved T fates saved → ArePlaces T labels told dropped rows

-- ---- What the row of a place has, with one more event

-- One more, if it is so.
abbrev pub more : Bool → ℕ → ℕ
more is n = (if is then 1 else 0) + n

-- The first one; or if there is none, the number, if it is so.
abbrev pub else_first : Bool → ℕ → Option ℕ → Option ℕ
else_first is i (Some first) = Some first
else_first true i None = Some i
else_first false i None = None

-- What a crash keeps without that one, where this is known of the first one.
abbrev pub else_saved : (ℕ → Option SavedBefore) → Bool → ℕ → Option ℕ → Option SavedBefore → Option SavedBefore
else_saved saved is i (Some first) before = before
else_saved saved true i None before = saved i
else_saved saved false i None before = before

-- The row of a place with this first event, before any is counted.
abbrev pub row_at : Origin → ℕ → PlaceRow
row_at place first = record {
  place = place;
  first = first;
  stores = 0;
  lost = 0;
  ignored = 0;
  late = 0;
  in_time = 0;
  left = 0;
  flushes = 0;
  idle_flushes = 0;
  fences = 0;
  idle_fences = 0;
  first_lost = None;
  first_late = None;
  last_missed = None;
  first_left = None;
  saved_before = None;
}

-- Each count has room for one more.
pub record AreSmall (r : PlaceRow) : Type 0 where
  pub stores : r.stores < 2 ^ 64 - 1
  pub lost : r.lost < 2 ^ 64 - 1
  pub ignored : r.ignored < 2 ^ 64 - 1
  pub late : r.late < 2 ^ 64 - 1
  pub in_time : r.in_time < 2 ^ 64 - 1
  pub left : r.left < 2 ^ 64 - 1
  pub flushes : r.flushes < 2 ^ 64 - 1
  pub idle_flushes : r.idle_flushes < 2 ^ 64 - 1
  pub fences : r.fences < 2 ^ 64 - 1
  pub idle_fences : r.idle_fences < 2 ^ 64 - 1

-- The row with event i after the others, which has this fate.
abbrev pub with_fate : (ℕ → Option SavedBefore) → ℕ → Fate → PlaceRow → PlaceRow
with_fate saved i f r = record {
  place = r.place;
  first = r.first;
  stores = more (is_store_fate f) r.stores;
  lost = more (is_same fate.Lost f) r.lost;
  ignored = more (is_same fate.Ignored f) r.ignored;
  late = more (is_same fate.Late f) r.late;
  in_time = more (is_in_time f) r.in_time;
  left = more (is_same fate.Left f) r.left;
  flushes = more (is_flush_fate f) r.flushes;
  idle_flushes = more (is_same fate.IdleFlush f) r.idle_flushes;
  fences = more (is_fence_fate f) r.fences;
  idle_fences = more (is_same fate.IdleFence f) r.idle_fences;
  first_lost = else_first (is_same fate.Lost f) i r.first_lost;
  first_late = else_first (is_same fate.Late f) i r.first_late;
  last_missed = if is_missed f then Some i else r.last_missed;
  first_left = else_first (is_same fate.Left f) i r.first_left;
  saved_before = else_saved saved (is_same fate.Left f) i r.first_left r.saved_before;
}

-- ---- The rows of all places, event by event

-- The test by which places are the same.
abbrev pub same_place : Origin → Origin → Bool
same_place = (origin_eq.ghosts).eq

-- One more than where the row of label l stands, or 0; the same of a place.
abbrev pub label_number : RowPlaces → ℕ → ℕ
label_number places l = slice_index_or places.labels.items l (unwrap_or (get nat_eq places.rest l) 0)

abbrev pub place_number : RowPlaces → Origin → ℕ
place_number places (Label l) = label_number places l
place_number places (Thread t) = slice_index_or places.threads t 0

-- Where the row of the place stands.
abbrev pub before : ℕ → Option ℕ
before zero = None
before (suc k) = Some k

abbrev pub row_place : RowPlaces → Origin → Option ℕ
row_place places p = before (place_number places p)

-- The row of place k stands at p, where `old` told the rows by their places: it was there, or is the new last one, whose first event has
-- this number.
pub data Finds (k : Origin) (number : ℕ) (rows : List PlaceRow) (old : Origin → Option ℕ) (all : List PlaceRow) (new : Origin → Option ℕ) (p : ℕ) : Type 0 where
  IsThere : old k ≡ Some p → all ≡ rows → ((q : Origin) → new q ≡ old q) → Finds k number rows old all new p
  IsNew : old k ≡ None → p ≡ length rows → all ≡ rows ++ row_at k number ∷ [] → new k ≡ Some p → ((q : Origin) → (k ≡ q → ⊥) → new q ≡ old q) → Finds k number rows old all new p

-- A row for each group of these items by their places.
pub record AreRows (items : List (Keyed Origin)) (fates : List Fate) (saved : ℕ → Option SavedBefore) (rows : List PlaceRow) : Type 0 where
  pub groups : List (Group Origin)
  pub grouped : AreGrouped items groups
  pub same : IsPermutation (map (row_in fates saved) groups) rows

-- ---- Where call paths are needed beside places; and those whose stores are saved one fence late, in places that save others sooner or later

-- One fence of its thread leaves each store of the place unsafe, and the next one saves it.
abbrev pub is_left : PlaceRow → Bool
is_left r = nat_lt 0 r.left && r.left == r.in_time && r.lost == 0 && r.late == 0

-- That is so of a part of them.
abbrev pub is_partly_left : PlaceRow → Bool
is_partly_left r = nat_lt 0 r.left && not (is_left r)

-- It is so of all stores of this place, by its row.
abbrev pub is_left_at : List PlaceRow → Origin → Bool
is_left_at places p = list_any (λ (r : PlaceRow). same_place r.place p && is_left r) places

-- So many events of one kind are no chance.
abbrev pub least_events : ℕ
least_events = 3

-- It is so of each store of the path, of so many or more, but not of each one of the place of its first event. This is the row of the path.
abbrev pub is_left_alone : Recording → List (Option ℕ) → List PlaceRow → PlaceRow → Bool
is_left_alone T labels places r = is_left r && nat_le least_events r.left && not (is_left_at places (origin_in labels r.first (event T r.first)))

-- There are paths, and one of the places has a part that they may tell apart.
abbrev pub may_differ : List (Option ℕ) → List PlaceRow → Bool
may_differ paths places = not (length paths == 0) && list_any is_partly_left places

-- A store of the place is told as never persisted, or is late.
abbrev pub misses : PlaceRow → Bool
misses r = nat_lt 0 r.lost || nat_lt 0 r.late

-- There are paths, and one of the places misses a store, or has such a part.
abbrev pub needs_paths : List (Option ℕ) → List PlaceRow → Bool
needs_paths paths places = not (length paths == 0) && (list_any misses places || list_any is_partly_left places)

-- The rows of all paths; none if they are not needed beside those of the places. Paths are numbers of whole labels, in the form of labels.
abbrev pub ArePathsIf : Bool → Recording → List (Option ℕ) → List ℕ → List ℕ → List PlaceRow → Type 0
ArePathsIf true T paths told dropped rows = ArePlaces T paths told dropped rows
ArePathsIf false T paths told dropped rows = rows ≡ []

abbrev pub ArePaths : Recording → List (Option ℕ) → List ℕ → List ℕ → List PlaceRow → List PlaceRow → Type 0
ArePaths T paths told dropped places rows = ArePathsIf (needs_paths paths places) T paths told dropped rows

-- The rows of those that one fence leaves unsafe alone, in the order of all paths; none if they can't differ from places.
abbrev pub AreLeftPathsIf : Bool → Recording → List (Option ℕ) → List (Option ℕ) → List ℕ → List ℕ → List PlaceRow → List PlaceRow → Type 0
AreLeftPathsIf true T labels paths told dropped places found = (rows : List PlaceRow) × ArePlaces T paths told dropped rows × (found ≡ filter (is_left_alone T labels places) rows)
AreLeftPathsIf false T labels paths told dropped places found = found ≡ []

abbrev pub AreLeftPaths : Recording → List (Option ℕ) → List (Option ℕ) → List ℕ → List ℕ → List PlaceRow → List PlaceRow → Type 0
AreLeftPaths T labels paths told dropped places found = AreLeftPathsIf (may_differ paths places) T labels paths told dropped places found
