-- What is told of a trace, what weighs most first, and the verdict.
use Rattle.std.specs.Prelude.{ℕ, ◌-◌, ◌||◌, Bool, if◌then◌else◌, is_some, nat_le, nat_lt, Option, None, Some, ◌==◌, not, List, length, true, false, map, slice_get, ◌&&◌, nat_eq, option_map, slice_index_or, ◌≡◌, ◌++◌, [], filter}
use Rattle.pmt_entries.specs.Prelude.{least_events, origin_in, same_place, Contrast, Hint, HintKind, PlaceRow, Group, Keyed, AreGrouped, first_in, Origin, nothing, AreContrasts, PlaceTable}
use Rattle.pmt_laws.specs.Prelude.{list_any, Verdict as Judged, enumerate_from, IsNonDecreasingBy, IsPermutation, range_with_len, IsStableByKey, Recording, event, filter_map}
use Rattle.std.specs.Set.{is_member}
use Rattle.std.specs.Ordering.{nat_cmp}
use Rattle.pmt_entries.specs.declared.sites.Site.{Site}
use Rattle.pmt_entries.specs.declared.weight.Weight.{Weight}
use Rattle.pmt_entries.specs.declared.weight.Weight.TheVariants.{Fail, Lost, Suspect, Check, Meant}
use Rattle.pmt_entries.specs.declared.entries.Entry.{Entry}
use Rattle.pmt_entries.specs.declared.verdict.Verdict.{Verdict}
use Rattle.pmt_entries.specs.declared.losses.LossKey.{LossKey}
use Rattle.pmt_entries.specs.declared.entries.Entries.{Entries}
use Rattle.pmt_entries.specs.Sites.{AreClaimedIf, AreSites}
use Rattle.pmt_hints.specs.declared.hint.HintKind.TheVariants as kinds
use Rattle.pmt_entries.specs.declared.verdict.Verdict.TheVariants as verdicts
use Rattle.pmt_entries.specs.declared.entries.Subject.TheVariants as subjects

-- The greatest weight has the least rank.
abbrev pub rank : Weight → ℕ
rank Fail = 0
rank Lost = 1
rank Suspect = 2
rank Check = 3
rank Meant = 4

-- A site with lost or late stores: scratch is meant to be lost. What is late weighs more if something tells that it should not be, and is
-- meant if assertions that pass claim it.
abbrev pub site_weight : Site → Weight
site_weight s =
    if s.is_scratch then Meant else if nat_lt 0 s.row.lost then Lost else if is_some s.sign || s.has_contrast then Suspect else if s.is_claimed then Meant else Check

-- Most stores of the contrast are clear.
abbrev pub is_mostly_clear : Contrast → Bool
is_mostly_clear c = nat_lt (c.all - c.clear) c.clear

-- A hint by its kind, its contrast and how many events it has. A flush that is open at a store weighs more where most stores to that
-- address from that place come with nothing open.
abbrev pub kind_weight : HintKind → Contrast → ℕ → Option Weight
kind_weight kinds.OpenAtStore c count = if nat_le least_events count then Some (if is_mostly_clear c then Suspect else Check) else None
kind_weight kinds.StoredAfterFlush c count = Some Check
kind_weight kinds.SplitWord c count = None
kind_weight kinds.OneLineShort c count = Some Check
kind_weight kinds.StoredAfterMark c count = Some Check

-- A hint by itself, with its contrast; none where it is a small thing.
abbrev pub hint_weight : Contrast → Hint → Option Weight
hint_weight c h = kind_weight h.kind c h.count

-- ---- The verdict on a trace

-- An entry has this weight.
abbrev pub is_any_with : Weight → List Entry → Bool
is_any_with w entries = list_any (λ (e : Entry). rank e.weight == rank w) entries

-- A site stores something; a store is told as never persisted.
abbrev pub is_any_stored : List PlaceRow → Bool
is_any_stored places = list_any (λ (r : PlaceRow). nat_lt 0 r.stores) places

abbrev pub is_any_lost : List PlaceRow → Bool
is_any_lost places = list_any (λ (r : PlaceRow). nat_lt 0 r.lost) places

-- An assertion fails.
abbrev pub is_any_failing : List Judged → Bool
is_any_failing judged = list_any (λ (v : Judged). not v.pass) judged

-- The verdict, where these are all sites, the verdicts on all assertions, and all entries.
abbrev pub verdict : List PlaceRow → List Judged → List Entry → Verdict
verdict places judged entries =
    if not (is_any_stored places) then verdicts.Nothing else if is_any_failing judged then verdicts.Fail else if is_any_with Lost entries then verdicts.Lost else
    if is_any_with Suspect entries then verdicts.Suspect else if is_any_with Check entries then verdicts.Check else if is_any_lost places then verdicts.ProbablyOk else
    if length judged == 0 then verdicts.OkSoFar else verdicts.Ok

-- ---- Sites that are told together, since they first lose or delay stores in the same call

abbrev pub is_meant : Weight → Bool
is_meant Meant = true
is_meant w = false

abbrev pub is_suspect : Weight → Bool
is_suspect Suspect = true
is_suspect w = false

abbrev pub loss_key : Site → LossKey
loss_key s = record { loses = nat_lt 0 s.row.lost; is_meant = is_meant (site_weight s); thread = s.thread; fence = s.fence }

-- A site's index, with its key.
abbrev pub loss_item : ℕ × Site → Keyed LossKey
loss_item p = record { key = loss_key p.1; number = p.0 }

abbrev pub first_of : Group LossKey → ℕ
first_of g = first_in g

-- These groups, each as it was, by their first members.
abbrev pub IsByFirst : List (Group LossKey) → List (Group LossKey) → Type 0
IsByFirst groups losses = IsPermutation groups losses × IsNonDecreasingBy first_of losses

-- The indexes of these sites in groups by their keys, by their first sites.
abbrev pub AreLosses : List Site → List (Group LossKey) → Type 0
AreLosses sites losses = (groups : List (Group LossKey)) × AreGrouped (map loss_item (enumerate_from 0 sites)) groups × IsByFirst groups losses

abbrev pub is_suspect_site : Option Site → Bool
is_suspect_site None = false
is_suspect_site (Some s) = is_suspect (site_weight s)

-- The site with this index weighs Suspect.
abbrev pub is_suspect_at : List Site → ℕ → Bool
is_suspect_at sites i = is_suspect_site (slice_get sites i)

-- The greatest weight of the sites of the loss.
abbrev pub loss_weight : List Site → Group LossKey → Weight
loss_weight sites g = if g.key.is_meant then Meant else if g.key.loses then Lost else if list_any (is_suspect_at sites) g.members.items then Suspect else Check

-- ---- Sites and call paths each of whose stores is saved one fence late

-- One of these hints is of the place.
abbrev pub is_hinted : List Hint → Origin → Bool
is_hinted hints p = is_member same_place (map (λ (h : Hint). h.place) hints) p

-- One fence leaves each store of the site unsafe, of so many or more, and a crash then keeps something later.
abbrev pub is_left : PlaceRow → Bool
is_left r = nat_le least_events r.left && r.left == r.in_time && r.lost == 0 && r.late == 0 && is_some r.saved_before

-- The row of a site, with its index, is told.
abbrev pub is_told : List Hint → ℕ × PlaceRow → Bool
is_told hints p = is_left p.1 && not (is_hinted hints p.1.place)

-- The row of a call path is told. Its site is that of its first event.
abbrev pub is_path_told : Recording → List (Option ℕ) → List Hint → ℕ × PlaceRow → Bool
is_path_told T frames hints p = not (is_hinted hints (origin_in frames p.1.first (event T p.1.first)))

abbrev pub left_entry : ℕ × PlaceRow → Entry
left_entry p = record { weight = Check; subject = subjects.Left p.0 }

abbrev pub left_path_entry : ℕ × PlaceRow → Entry
left_path_entry p = record { weight = Check; subject = subjects.LeftPath p.0 }

-- ---- Hints that are told by themselves

-- The hint with this index is the sign of a site.
abbrev pub is_sign : List Site → ℕ → Bool
is_sign sites i = is_member nat_eq (filter_map (λ (s : Site). s.sign) sites) i

-- The place is a site that loses or delays stores.
abbrev pub is_site : List Site → Origin → Bool
is_site sites p = is_member same_place (map (λ (s : Site). s.row.place) sites) p

abbrev pub is_stored_after : HintKind → Bool
is_stored_after kinds.StoredAfterFlush = true
is_stored_after k = false

abbrev pub hint_entry_if : Bool → Bool → ℕ → Contrast → Hint → Option Entry
hint_entry_if sign site i c h =
    if sign || (is_stored_after h.kind && site) then None else option_map (λ (w : Weight). record { weight = w; subject = subjects.Hint i }) (hint_weight c h)

abbrev pub contrast_of : List Contrast → ℕ → Contrast
contrast_of contrasts i = slice_index_or contrasts i nothing

-- The entry of a hint with its index: none of a small thing, nor of what is told with a site, as its sign is, and what is stored after its
-- flush there.
abbrev pub hint_entry : List Site → List Contrast → ℕ × Hint → Option Entry
hint_entry sites contrasts p = hint_entry_if (is_sign sites p.0) (is_site sites p.1.place) p.0 (contrast_of contrasts p.0) p.1

-- ---- What is told of a trace, what weighs most first

-- The entry of a cause of failed assertions, by its index; of a loss with its index.
abbrev pub failure_entry : ℕ → Entry
failure_entry i = record { weight = Fail; subject = subjects.Failure i }

abbrev pub loss_entry : List Site → ℕ × Group LossKey → Entry
loss_entry sites p = record { weight = loss_weight sites p.1; subject = subjects.Loss p.0 }

-- An entry for each of n causes of failed assertions, each of these losses of these sites, and what else is told. The hints have these
-- contrasts.
abbrev pub entries_in_turn : Recording → ℕ → List (Option ℕ) → PlaceTable → List Hint → List Contrast → List Site → List (Group LossKey) → List Entry
entries_in_turn T n frames table hints contrasts sites losses =
    (((map failure_entry (range_with_len 0 n) ++ map (loss_entry sites) (enumerate_from 0 losses)) ++ filter_map (hint_entry sites contrasts) (enumerate_from 0 hints))
    ++ map left_entry (filter (is_told hints) (enumerate_from 0 table.places.items)))
    ++ map left_path_entry (filter (is_path_told T frames hints) (enumerate_from 0 table.left_paths.items))

abbrev pub rank_of : Entry → ℕ
rank_of e = rank e.weight

-- These entries, the greatest weight first; those of one weight in the order in which they were given.
pub record AreByWeight (given entries : List Entry) : Type 0 where
  pub same : IsPermutation given entries
  pub rising : IsNonDecreasingBy rank_of entries
  pub stable : IsStableByKey rank_of nat_cmp given entries

-- The hint is of flushes that are open at a store.
abbrev pub is_open_kind : HintKind → Bool
is_open_kind kinds.OpenAtStore = true
is_open_kind k = false

abbrev pub is_open_hint : Hint → Bool
is_open_hint h = is_open_kind h.kind

-- The contrasts of these hints, if one is of such flushes: no other has any, and there are none then.
abbrev pub AreContrastsIf : Recording → List (Option ℕ) → List Hint → List Contrast → Type 0
AreContrastsIf T frames hints contrasts = (list_any is_open_hint hints ≡ true → AreContrasts T frames hints contrasts) × (list_any is_open_hint hints ≡ false → contrasts ≡ [])

-- What is told of a trace with these verdicts on its assertions, n causes of failed ones, these rows and hints. Its events have these
-- numbers of innermost frames; these stores are told as never persisted, and each event waits for so many fences.
pub record AreEntries (T : Recording) (judged : List Judged) (n : ℕ) (frames : List (Option ℕ)) (table : PlaceTable) (hints : List Hint) (told waited : List ℕ) (x : Entries) : Type 0 where
  pub claimed : List Bool
  pub are_claimed : AreClaimedIf T table.places.items claimed
  pub sites : AreSites T frames table hints told waited claimed x.sites.items
  pub contrasts : AreContrastsIf T frames hints x.contrasts.items
  pub losses : AreLosses x.sites.items x.losses.items
  pub entries : AreByWeight (entries_in_turn T n frames table hints x.contrasts.items x.sites.items x.losses.items) x.entries.items
  pub verdict : x.verdict ≡ verdict table.places.items judged x.entries.items
