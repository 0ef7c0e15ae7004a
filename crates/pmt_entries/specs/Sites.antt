-- Sites that lose or delay stores, and what tells whether that is meant.
use Rattle.std.specs.Prelude.{◌≡◌, ℕ, ◌==◌, ◌&&◌, ◌||◌, Bool, true, false, nat_le, List, drop, Option, None, Some, slice_get, unwrap_or, ◌+◌, ◌-◌, if◌then◌else◌, nat_lt, slice_index, ◌*◌, not, nat_eq, length, map, slice_index_or}
use Rattle.pmt_laws.specs.Prelude.{Event, Op, Store, Clwb, ClflushOpt, Clflush, Sfence, Mfence, IsPersist, IsOrderedBefore, Layout, line_of, Recording, event, Has, list_any, option_map, position, filter, range_with_len}
use Rattle.pmt_entries.specs.Prelude.{PlaceRow, Standing, LosesAll, standing, misses, origin_in, same_place, Claims, claim_at, has_line, is_claimed_line, Origin, Hint, HintKind, StoredAfterFlush, OneLineShort, AreOwnFences, PlaceTable, AreClaimedStores}
use Rattle.std.specs.HashMap.{HashMap, get}
use Rattle.std.specs.declared.hash.FoldHasher.{FoldHasher}
use Rattle.std.specs.declared.hash.BuildHasherDefault.{BuildHasherDefault}
use Rattle.std.specs.Set.{is_member}
use Rattle.std.specs.HashSet.{HashSet, IsFromIterResult, contains}
use Rattle.pmt_entries.specs.declared.signs.Mark.{Mark}
use Rattle.pmt_entries.specs.declared.signs.Mark.TheVariants.{Place, Line}
use Rattle.pmt_entries.specs.declared.sites.Site.{Site}
use Rattle.pmt_entries.specs.declared.sites.Facts.{Facts}
use Rattle.pmt_entries.specs.contracts.signs.MarkPartialEq.TheImpl as mark_eq

-- The op flushes line l, or is an assertion of which a range has a byte of it.
abbrev pub op_touches : Layout → Op → ℕ → Bool
op_touches f (Store w) l = false
op_touches f (Clwb a) l = line_of f a == l
op_touches f (ClflushOpt a) l = line_of f a == l
op_touches f (Clflush a) l = line_of f a == l
op_touches f Sfence l = false
op_touches f Mfence l = false
op_touches f (IsPersist A) l = has_line f A l
op_touches f (IsOrderedBefore A B) l = has_line f A l || has_line f B l

abbrev pub event_touches : Layout → ℕ → Event → Bool
event_touches f l e = op_touches f e.op l

-- Some of these events does so.
abbrev pub is_touched_line : Layout → List Event → Option ℕ → Bool
is_touched_line f es None = false
is_touched_line f es (Some l) = list_any (event_touches f l) es

-- The events after the first of these stores: what comes before clears lines, and is no use of them.
abbrev pub later : Recording → List ℕ → List Event
later T stores = drop (unwrap_or (slice_get stores 0) 0) T.events

-- The address to which the event stores, if it is a store.
abbrev pub op_address : Op → Option ℕ
op_address (Store w) = Some w.addr
op_address op = None

abbrev pub event_address : Option Event → Option ℕ
event_address None = None
event_address (Some e) = op_address e.op

abbrev pub address_at : Recording → ℕ → Option ℕ
address_at T i = event_address (event T i)

abbrev pub line_at : Recording → ℕ → Option ℕ
line_at T i = option_map (line_of T.format) (address_at T i)

-- Event i stores to a line that an event after the first of these stores flushes, or an assertion after it has a byte of.
abbrev pub is_touched : Recording → List ℕ → ℕ → Bool
is_touched T stores i = is_touched_line T.format (later T stores) (line_at T i)

abbrev pub is_same : Option ℕ → Option ℕ → Bool
is_same None b = false
is_same (Some a) None = false
is_same (Some a) (Some b) = a == b

abbrev pub is_all : Standing → Bool
is_all LosesAll = true
is_all other = false

-- The site loses all that it stores, twice or more, to one address first and last.
abbrev pub loses_one_address : Recording → PlaceRow → Bool
loses_one_address T r = is_all (standing r) && nat_le 2 r.lost && is_same (address_at T (unwrap_or r.first_lost 0)) (address_at T (unwrap_or r.last_missed 0))

-- The line of its first lost store.
abbrev pub first_line : Recording → PlaceRow → ℕ
first_line T r = unwrap_or (line_at T (unwrap_or r.first_lost 0)) 0

-- Lines, each by whether it is touched: those of these stores, none of them touched yet.
abbrev pub AreAsked : Recording → List ℕ → Claims → Type 0
AreAsked T stores lines = (i l : ℕ) → Has stores i → line_at T i ≡ Some l → claim_at lines l ≡ Some false

-- The line to which event i stores is noted.
abbrev pub is_noted : Recording → Claims → ℕ → Bool
is_noted T lines i = is_claimed_line lines (line_at T i)

-- ---- Hints that tell why a site loses or delays stores

-- The line of a store, and the one behind that of a flush which waits for a fence.
abbrev pub op_line : Layout → Op → Option ℕ
op_line f (Store w) = Some (line_of f w.addr)
op_line f (Clwb a) = Some (line_of f a + 1)
op_line f (ClflushOpt a) = Some (line_of f a + 1)
op_line f op = None

-- This line, with the thread and its next fence.
abbrev pub line_with : ℕ → ℕ → Option ℕ → Option Mark
line_with t fence None = None
line_with t fence (Some l) = Some (Line (record { thread = t; fence = fence; line = l }))

abbrev pub event_line : Layout → ℕ → Option Event → Option Mark
event_line f fence None = None
event_line f fence (Some e) = line_with e.thread fence (op_line f e.op)

-- That line of event i, where these are the next own fences of all events.
abbrev pub line_mark : Recording → List ℕ → ℕ → Option Mark
line_mark T fences i = event_line T.format (slice_index fences (i - 1)) (event T i)

-- What the hint has in common with the sites that it is a sign of: the site itself, or, for flushes that end one line short, the line
-- behind the first of them, which the site's first lost or late store is to.
abbrev pub mark_by : HintKind → Origin → Option Mark → Option Mark
mark_by StoredAfterFlush p line = Some (Place p)
mark_by OneLineShort p line = line
mark_by kind p line = None

abbrev pub mark_of : Recording → List ℕ → Hint → Option Mark
mark_of T fences h = mark_by h.kind h.place (line_mark T fences h.first)

abbrev pub is_mark : Option Mark → Option Mark → Bool
is_mark None mark = false
is_mark (Some m) None = false
is_mark (Some m) (Some k) = (mark_eq.ghosts).eq k m

-- The hint is a sign of the site, of which this is the first store that is lost or late.
abbrev pub is_sign : Recording → List ℕ → Origin → ℕ → Hint → Bool
is_sign T fences p first h = is_mark (Some (Place p)) (mark_of T fences h) || is_mark (line_mark T fences first) (mark_of T fences h)

-- The index of the first sign.
abbrev pub sign_in : Recording → List ℕ → List Hint → Origin → ℕ → Option ℕ
sign_in T fences hints p first = position (is_sign T fences p first) hints

-- The first hint with each mark, by its index.
abbrev pub Signs : Type 0
Signs = HashMap Mark ℕ (BuildHasherDefault FoldHasher)

abbrev pub sign_at : Signs → Option Mark → Option ℕ
sign_at signs None = None
sign_at signs (Some m) = get (mark_eq.ghosts).eq signs m

-- The lower of two indexes, as far as they are known.
abbrev pub earlier : Option ℕ → Option ℕ → Option ℕ
earlier None j = j
earlier (Some i) None = Some i
earlier (Some i) (Some j) = if nat_lt i j then Some i else Some j

-- ---- Sites that lose or delay stores, and what tells whether that is meant

-- The first store of the site that is lost, or else the first that is late.
abbrev pub first_missed : PlaceRow → ℕ
first_missed r = unwrap_or r.first_lost (unwrap_or r.first_late 0)

abbrev pub thread_in : Option Event → ℕ
thread_in None = 0
thread_in (Some e) = e.thread

-- One of these events is at the site.
abbrev pub is_among : Recording → List (Option ℕ) → List ℕ → Origin → Bool
is_among T frames numbers p = is_member same_place (map (λ (i : ℕ). origin_in frames i (event T i)) numbers) p

-- Fewer than half of its stores are lost or late.
abbrev pub misses_few : PlaceRow → Bool
misses_few r = nat_lt (2 * (r.lost + r.late)) (r.stores - r.ignored)

-- By this path some are, and others are in time.
abbrev pub is_mixed : PlaceRow → Bool
is_mixed r = misses r && nat_lt 0 r.in_time

abbrev pub mixed_paths : List PlaceRow → List ℕ
mixed_paths paths = map (λ (r : PlaceRow). r.first) (filter is_mixed paths)

-- Contrast: there are rows of paths, fewer than half are lost or late, and no path of the site has both such stores and others. The site of
-- a path is that of its first event.
abbrev pub has_contrast : Recording → List (Option ℕ) → List PlaceRow → PlaceRow → Bool
has_contrast T frames paths r = not (length paths == 0) && misses_few r && not (is_among T frames (mixed_paths paths) r.place)

-- One of these stores is at the site, to a line that something flushes or asserts after the first of them.
abbrev pub is_touched_at : Recording → List (Option ℕ) → List ℕ → PlaceRow → Bool
is_touched_at T frames told r = is_among T frames (filter (is_touched T told) told) r.place

-- It is scratch by itself: it loses all that it stores, to one address first and last, in lines that nothing flushes or asserts any more.
abbrev pub is_lone_scratch : Recording → List (Option ℕ) → List ℕ → PlaceRow → Bool
is_lone_scratch T frames told r = loses_one_address T r && not (is_touched_at T frames told r)

abbrev pub scratch_lines : Recording → List (Option ℕ) → List ℕ → List PlaceRow → List ℕ
scratch_lines T frames told rows = map (first_line T) (filter (is_lone_scratch T frames told) rows)

-- Scratch: so, or it loses all that it stores, in lines that nothing flushes or asserts any more, and first to a line of a site that is so.
abbrev pub is_scratch : Recording → List (Option ℕ) → List ℕ → List PlaceRow → PlaceRow → Bool
is_scratch T frames told rows r = is_all (standing r) && not (is_touched_at T frames told r) && is_member nat_eq (scratch_lines T frames told rows) (first_line T r)

-- Two fences or more leave an event unsafe that waits for so many.
abbrev pub is_waiting : ℕ → Bool
is_waiting fences = nat_le 2 fences

-- The site delays a store, and loses none.
abbrev pub is_only_late : PlaceRow → Bool
is_only_late r = r.lost == 0 && nat_lt 0 r.late

-- Of each event whether it is a claimed store, if one of these sites is only late: no other can be claimed.
abbrev pub AreClaimedIf : Recording → List PlaceRow → List Bool → Type 0
AreClaimedIf T rows claimed = list_any is_only_late rows ≡ true → AreClaimedStores T claimed

-- Two fences or more of its thread leave the event unsafe, and it is not claimed.
abbrev pub is_unclaimed : List ℕ → List Bool → ℕ → Bool
is_unclaimed waited claimed i = is_waiting (slice_index waited (i - 1)) && not (slice_index_or claimed (i - 1) false)

abbrev pub unclaimed_in : List ℕ → List Bool → List ℕ
unclaimed_in waited claimed = filter (is_unclaimed waited claimed) (range_with_len 1 (length waited))

-- Claimed: it loses no store, and each one that two fences or more leave unsafe is claimed.
abbrev pub is_claimed : Recording → List (Option ℕ) → List ℕ → List Bool → PlaceRow → Bool
is_claimed T frames waited claimed r = r.lost == 0 && not (is_among T frames (unclaimed_in waited claimed) r.place)

-- The site with this row of the table, where these are the next own fences of all events.
abbrev pub site_in : Recording → List (Option ℕ) → PlaceTable → List Hint → List ℕ → List ℕ → List Bool → List ℕ → PlaceRow → Site
site_in T frames table hints told waited claimed fences r = record {
  row = r;
  first = first_missed r;
  thread = thread_in (event T (first_missed r));
  fence = slice_index fences (first_missed r - 1);
  sign = sign_in T fences hints r.place (first_missed r);
  has_contrast = has_contrast T frames table.paths.items r;
  is_scratch = is_scratch T frames told table.places.items r;
  is_claimed = is_claimed T frames waited claimed r;
}

-- A site for each row of the table that loses or delays a store, in the same order.
abbrev pub AreSites : Recording → List (Option ℕ) → PlaceTable → List Hint → List ℕ → List ℕ → List Bool → List Site → Type 0
AreSites T frames table hints told waited claimed sites =
    (fences : List ℕ) × AreOwnFences T fences × (sites ≡ map (site_in T frames table hints told waited claimed fences) (filter misses table.places.items))

-- ---- Sites by what is known of all of them

abbrev pub Places : Type 0
Places = HashSet Origin (BuildHasherDefault FoldHasher)

-- These are the places of these events.
abbrev pub AreAt : Recording → List (Option ℕ) → List ℕ → Places → Type 0
AreAt T frames numbers places = IsFromIterResult same_place (map (λ (i : ℕ). origin_in frames i (event T i)) numbers) places

abbrev pub contrast_by : Facts → PlaceRow → Bool
contrast_by facts r = facts.has_paths && misses_few r && not (contains same_place facts.mixed r.place)

-- Scratch by itself, where these sites lose stores to touched lines.
abbrev pub lone_by : Recording → Places → PlaceRow → Bool
lone_by T touched r = loses_one_address T r && not (contains same_place touched r.place)

abbrev pub scratch_by : Recording → Facts → PlaceRow → Bool
scratch_by T facts r = is_all (standing r) && not (contains same_place facts.touched r.place) && contains nat_eq facts.scratch (first_line T r)

abbrev pub claimed_by : Facts → PlaceRow → Bool
claimed_by facts r = r.lost == 0 && not (contains same_place facts.unclaimed r.place)

-- The site with this row.
abbrev pub site_by : Recording → Facts → PlaceRow → Site
site_by T facts r = record {
  row = r;
  first = first_missed r;
  thread = thread_in (event T (first_missed r));
  fence = slice_index facts.fences.items (first_missed r - 1);
  sign = earlier (sign_at facts.signs (Some (Place r.place))) (sign_at facts.signs (line_mark T facts.fences.items (first_missed r)));
  has_contrast = contrast_by facts r;
  is_scratch = scratch_by T facts r;
  is_claimed = claimed_by facts r;
}
