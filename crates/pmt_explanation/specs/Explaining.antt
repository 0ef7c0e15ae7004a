-- What an explanation has of each kind: the findings that are asked for, their groups, and hints.
use Rattle.std.specs.Prelude.{ℕ, ◌||◌, Bool, List, filter, Option, map, not, None, Some, ◌≡◌, ◌++◌, ◌-◌, length, take, count_by, is_some, IfSome}
use Rattle.pmt_model.specs.Traces.{Recording}
use Rattle.pmt_explanation.specs.Prelude.{Dropped, Overwriting, Hint, Group, Keyed, LateSpot, AreGrouped, first_in, AreFailureGroups, lost_item, AreLateItems, AreWaited, AreThose, IsOneLineShort, IsSplitWord, IsStoredAfterFlush, IsStoredAfterMark, IsToldOnPath, IsToldOpen, AreHintsOf, ArePathHintsOf, HintKind, OneLineShort, OpenAtStore, SplitWord, StoredAfterFlush, StoredAfterMark, AreDropped, event_of, AreLostGroups, AreOverwrittenGroups, dropped_item, AreLeftPaths, ArePaths, ArePlaces, PlaceTable, Choice, Kind, Labels, Unwritten, is_asked_for, is_left_out, Ignored, failing_events, AreShown, IsShown, unwritten_of, Options, AreEntries, ShownFailure, IsUpcoming}
use Rattle.std.specs.List.{filter_map, All}
use Rattle.pmt_model.specs.declared.finding.Finding.{Finding}
use Rattle.pmt_model.specs.declared.finding.Finding.TheVariants.{Overwritten, NeverPersisted, RedundantFlush, FenceWithoutFlush}
use Rattle.pmt_analysis.specs.Analysing.{Analysed}
use Rattle.pmt_explanation.specs.declared.hinting.EarlyHints.{EarlyHints}
use Rattle.pmt_explanation.specs.declared.hinting.LateHints.{LateHints}
use Rattle.pmt_explanation.specs.declared.drops.Drops.{Drops}
use Rattle.pmt_explanation.specs.declared.firsts.Firsts.{Firsts}
use Rattle.pmt_explanation.specs.declared.found.Begun.{Begun}
use Rattle.pmt_explanation.specs.declared.found.Found.{Found}
use Rattle.pmt_explanation.specs.declared.found.Told.{Told}
use Rattle.pmt_explanation.specs.declared.risks.Broken.{Broken}
use Rattle.pmt_explanation.specs.declared.risks.Lost.{Lost}
use Rattle.pmt_explanation.specs.declared.risks.Risks.{Risks}
use Rattle.pmt_explanation.specs.declared.explaining.Explanation.{Explanation}
use Rattle.pmt_explanation.specs.declared.explaining.Parts.{Parts}
use Rattle.pmt_explanation.specs.Summing.{AreFrameNumbers, AreLabelNumbers}
use Rattle.pmt_asked.specs.declared.choosing.Kind.TheVariants as kinds

abbrev pub asked_numbers : Recording → Labels → Choice → Kind → List ℕ → List ℕ
asked_numbers T labels c kind numbers = filter (is_asked_for T labels c kind) numbers

abbrev pub asked_dropped : Recording → Labels → Choice → List Dropped → List Dropped
asked_dropped T labels c dropped = filter (λ (d : Dropped). is_asked_for T labels c kinds.Dropped d.event) dropped

-- One of the two stores is asked for.
abbrev pub is_pair_asked : Recording → Labels → Choice → Overwriting → Bool
is_pair_asked T labels c p = is_asked_for T labels c kinds.Overwritten p.earlier || is_asked_for T labels c kinds.Overwritten p.later

abbrev pub asked_pairs : Recording → Labels → Choice → List Overwriting → List Overwriting
asked_pairs T labels c pairs = filter (is_pair_asked T labels c) pairs

abbrev pub asked_unwritten : Recording → Labels → Choice → List Unwritten → List Unwritten
asked_unwritten T labels c found = filter (λ (u : Unwritten). is_asked_for T labels c kinds.Unwritten u.event) found

-- The first event of the hint is asked for.
abbrev pub asked_hints : Recording → Labels → Choice → List Hint → List Hint
asked_hints T labels c hints = filter (λ (h : Hint). is_asked_for T labels c kinds.Hint h.first) hints

-- ---- Findings in groups, by what they have in common

module _ {K : Type 0} where
  -- The first member of each group.
  abbrev pub first_members : List (Group K) → List ℕ
  first_members groups = map (λ (g : Group K). first_in g) groups

-- Those of these items whose numbers are asked for.
abbrev pub asked_items : (ℕ → Bool) → List (Keyed LateSpot) → List (Keyed LateSpot)
asked_items asked items = filter (λ (x : Keyed LateSpot). asked x.number) items

-- The late stores that are asked for, in groups by their spots.
abbrev pub AreAskedLate : Recording → List (Option ℕ) → (ℕ → Bool) → List (Group LateSpot) → Type 0
AreAskedLate T frames asked late = (items : List (Keyed LateSpot)) × AreLateItems T frames items × AreGrouped (asked_items asked items) late

-- ---- Stores that are never persisted or overwritten, without those that are ignored

-- The store that the finding tells as never persisted.
abbrev pub lost_store : Finding → Option ℕ
lost_store (Overwritten earlier later) = None
lost_store (NeverPersisted i flushed) = Some i
lost_store (RedundantFlush i) = None
lost_store (FenceWithoutFlush i) = None

-- The stores that are never persisted, in report order.
abbrev pub lost_stores : List Finding → List ℕ
lost_stores findings = filter_map lost_store findings

-- Those of them that are not ignored.
abbrev pub told_stores : Recording → Labels → Ignored → List Finding → List ℕ
told_stores T labels ignored findings = filter (λ i. not (is_left_out T labels ignored i)) (lost_stores findings)

-- The pair of stores that the finding tells as overwritten.
abbrev pub overwriting : Finding → Option Overwriting
overwriting (Overwritten earlier later) = Some (record { earlier = earlier; later = later })
overwriting (NeverPersisted i flushed) = None
overwriting (RedundantFlush i) = None
overwriting (FenceWithoutFlush i) = None

-- The pairs of overwritten and overwriting stores, in report order.
abbrev pub overwritings : List Finding → List Overwriting
overwritings findings = filter_map overwriting findings

-- Those of them whose earlier store is not ignored.
abbrev pub told_pairs : Recording → Labels → Ignored → List Finding → List Overwriting
told_pairs T labels ignored findings = filter (λ (p : Overwriting). not (is_left_out T labels ignored p.earlier)) (overwritings findings)

-- ---- All hints of a trace

-- The hints of one kind, by place: of the events with its property. A place is an innermost frame, or without a label a thread.
pub record AreHintsWith (T : Recording) (frames : List (Option ℕ)) (kind : HintKind) (P : ℕ → Type 0) (hints : List Hint) : Type 0 where
  pub numbers : List ℕ
  pub those : AreThose P numbers
  pub told : AreHintsOf T frames kind numbers hints

-- Those of flushes that are open at a store: of places, and then of paths alone. A path is a whole label.
pub record AreOpenHints (T : Recording) (frames paths : List (Option ℕ)) (hints : List Hint) : Type 0 where
  pub of_places : List Hint
  pub of_paths : List Hint
  pub numbers : List ℕ
  pub are_placed : AreHintsWith T frames OpenAtStore (IsToldOpen T frames) of_places
  pub those : AreThose (IsToldOnPath T frames paths) numbers
  pub told : ArePathHintsOf T frames paths OpenAtStore numbers of_paths
  pub whole : hints ≡ of_places ++ of_paths

-- Those that the trace and what is kept of it tell.
pub record AreEarly (T : Recording) (frames paths : List (Option ℕ)) (x : EarlyHints) : Type 0 where
  pub are_split : AreHintsWith T frames SplitWord (IsSplitWord T frames) x.words.items
  pub are_marked : AreHintsWith T frames StoredAfterMark (IsStoredAfterMark T frames) x.marks.items
  pub are_open : AreOpenHints T frames paths x.flushes.items

-- The others.
pub record AreLate (T : Recording) (frames : List (Option ℕ)) (x : LateHints) : Type 0 where
  pub are_after : AreHintsWith T frames StoredAfterFlush (IsStoredAfterFlush T) x.stores.items
  pub are_short : AreHintsWith T frames OneLineShort (IsOneLineShort T frames) x.runs.items

-- All hints, one kind after the other: those of stores before those of flushes.
pub record AreHints (T : Recording) (frames paths : List (Option ℕ)) (hints : List Hint) : Type 0 where
  pub early : EarlyHints
  pub late : LateHints
  pub are_early : AreEarly T frames paths early
  pub are_late : AreLate T frames late
  pub whole : hints ≡ ((early.words.items ++ late.stores.items) ++ early.marks.items) ++ (late.runs.items ++ early.flushes.items)

-- ---- What an explanation has of an analysed trace

-- In all of these the labels' numbers and those of innermost frames are given, and this is asked.

-- What the others need.
pub record AreFirsts (a : Analysed) (labels : Labels) (frames : List (Option ℕ)) (o : Options) (x : Firsts) : Type 0 where
  pub upcoming : IfSome x.upcoming (IsUpcoming a.trace)
  pub dropped : AreDropped a.trace x.dropped.items
  pub waited : AreWaited a.trace x.waited.items
  pub late : AreAskedLate a.trace frames (is_asked_for a.trace labels o.choice kinds.Late) x.late.items

-- What is told of these, which are dropped.
pub record AreDrops (T : Recording) (labels : Labels) (numbers : List (Option ℕ)) (o : Options) (dropped : List Dropped) (d : Drops) : Type 0 where
  pub asked : d.asked.items ≡ asked_dropped T labels o.choice dropped
  pub groups : AreGrouped (filter_map (dropped_item T numbers) d.asked.items) d.groups.items

-- What each place has, where these stores are told as never persisted, and these are dropped.
pub record ArePlacesOf (T : Recording) (numbers frames : List (Option ℕ)) (stores : List ℕ) (dropped : List Dropped) (t : PlaceTable) : Type 0 where
  pub places : ArePlaces T frames stores (map event_of dropped) t.places.items
  pub paths : ArePaths T numbers stores (map event_of dropped) t.places.items t.paths.items
  pub left_paths : AreLeftPaths T frames numbers stores (map event_of dropped) t.places.items t.left_paths.items

-- The stores that are never persisted, and the assertions on bytes that no store has written.
pub record AreLost (a : Analysed) (labels : Labels) (frames : List (Option ℕ)) (o : Options) (r : Lost) : Type 0 where
  pub stores : r.stores.items ≡ told_stores a.trace labels o.ignored a.findings
  pub ignored : r.losses.ignored ≡ count_by (λ (f : Finding). is_some (lost_store f)) a.findings - length r.stores.items
  pub groups : AreLostGroups a.trace (asked_numbers a.trace labels o.choice kinds.NeverPersisted r.stores.items) r.losses.groups.items
  pub causes : AreGrouped (filter_map (lost_item a.trace frames) r.losses.groups.items) r.losses.causes.items
  pub unwritten : r.unwritten.items ≡ asked_unwritten a.trace labels o.choice (unwritten_of a.trace)

-- The assertions that fail, and the stores that are overwritten.
pub record AreBroken (a : Analysed) (labels : Labels) (frames : List (Option ℕ)) (o : Options) (r : Broken) : Type 0 where
  pub failing : r.failed.failing.items ≡ failing_events a.verdicts
  pub asked_failing : r.failed.asked.items ≡ asked_numbers a.trace labels o.choice kinds.Failure r.failed.failing.items
  pub causes : AreFailureGroups a.trace frames r.failed.asked.items r.failed.causes.items
  pub shown : AreShown a.trace (take o.limit (first_members r.failed.causes.items)) r.failed.shown.items
  pub overwritten : AreOverwrittenGroups a.trace (asked_pairs a.trace labels o.choice (told_pairs a.trace labels o.ignored a.findings)) r.overwrites.groups.items
  pub ignored_pairs : r.overwrites.ignored ≡ count_by (λ (f : Finding). is_some (overwriting f)) a.findings - length (told_pairs a.trace labels o.ignored a.findings)

-- What a crash may lose.
pub record AreRisks (a : Analysed) (labels : Labels) (frames : List (Option ℕ)) (o : Options) (r : Risks) : Type 0 where
  pub lost : AreLost a labels frames o r.lost
  pub broken : AreBroken a labels frames o r.broken

-- What is found by the analysis alone.
pub record AreBegun (a : Analysed) (labels : Labels) (numbers frames : List (Option ℕ)) (o : Options) (x : Begun) : Type 0 where
  pub firsts : AreFirsts a labels frames o x.firsts
  pub risks : AreRisks a labels frames o x.risks
  pub early : AreEarly a.trace frames numbers x.early

-- All hints, those that are asked for, and the entries, where these are the rows of places, and this was found by the analysis alone.
pub record AreTold (a : Analysed) (labels : Labels) (numbers frames : List (Option ℕ)) (o : Options) (b : Begun) (t : PlaceTable) (x : Told) : Type 0 where
  pub hints : AreHints a.trace frames numbers x.hints.items
  pub asked : x.asked.items ≡ asked_hints a.trace labels o.choice x.hints.items
  pub entries : AreEntries a.trace a.verdicts (length b.risks.broken.failed.causes.items) frames t x.hints.items b.risks.lost.stores.items b.firsts.waited.items x.entries

-- All of it.
pub record AreFound (a : Analysed) (labels : Labels) (numbers frames : List (Option ℕ)) (o : Options) (x : Found) : Type 0 where
  pub begun : AreBegun a labels numbers frames o x.begun
  pub drops : AreDrops a.trace labels numbers o x.begun.firsts.dropped.items x.drops
  pub table : ArePlacesOf a.trace numbers frames x.begun.risks.lost.stores.items x.begun.firsts.dropped.items x.table
  pub told : AreTold a labels numbers frames o x.begun x.table x.told

-- ---- What an explanation has of each kind

-- The rows of its sites and paths.
abbrev pub table_of : Explanation → PlaceTable
table_of x = record { places = x.places; left_paths = x.left_paths; paths = x.paths }

-- What is told of an analysis, with these labels, where this is asked.
pub record IsExplanation (a : Analysed) (labels : Labels) (o : Options) (x : Explanation) : Type 0 where
  pub failing : x.failing.items ≡ failing_events a.verdicts
  pub asked_failing : x.asked_failing.items ≡ asked_numbers a.trace labels o.choice kinds.Failure x.failing.items
  pub label_numbers : AreLabelNumbers labels (length a.trace.events) x.label_numbers.items
  pub frames : AreFrameNumbers labels (length a.trace.events) x.frames.items
  pub places : ArePlaces a.trace x.frames.items x.stores.items (map event_of x.dropped.items) x.places.items
  pub paths : ArePaths a.trace x.label_numbers.items x.stores.items (map event_of x.dropped.items) x.places.items x.paths.items
  pub left_paths : AreLeftPaths a.trace x.frames.items x.label_numbers.items x.stores.items (map event_of x.dropped.items) x.places.items x.left_paths.items
  pub hints : AreHints a.trace x.frames.items x.label_numbers.items x.hints.items
  pub asked_hints : x.asked_hints.items ≡ asked_hints a.trace labels o.choice x.hints.items
  pub entries : AreEntries a.trace a.verdicts (length x.causes.items) x.frames.items (table_of x) x.hints.items x.stores.items x.waited.items x.entries
  pub causes : AreFailureGroups a.trace x.frames.items x.asked_failing.items x.causes.items
  pub failures : All (IsShown a.trace) x.failures.items
  pub shown : map (λ (s : ShownFailure). s.event) x.failures.items ≡ take x.limit (first_members x.causes.items)
  pub stores : x.stores.items ≡ told_stores a.trace labels o.ignored a.findings
  pub lost : AreLostGroups a.trace (asked_numbers a.trace labels o.choice kinds.NeverPersisted x.stores.items) x.lost.items
  pub lost_causes : AreGrouped (filter_map (lost_item a.trace x.frames.items) x.lost.items) x.lost_causes.items
  pub dropped : AreDropped a.trace x.dropped.items
  pub asked_dropped : x.asked_dropped.items ≡ asked_dropped a.trace labels o.choice x.dropped.items
  pub dropped_groups : AreGrouped (filter_map (dropped_item a.trace x.label_numbers.items) x.asked_dropped.items) x.dropped_groups.items
  pub late : AreAskedLate a.trace x.frames.items (is_asked_for a.trace labels o.choice kinds.Late) x.late.items
  pub waited : AreWaited a.trace x.waited.items
  pub overwritten : AreOverwrittenGroups a.trace (asked_pairs a.trace labels o.choice (told_pairs a.trace labels o.ignored a.findings)) x.overwritten.items
  pub unwritten : x.unwritten.items ≡ asked_unwritten a.trace labels o.choice (unwritten_of a.trace)
  pub ignored_stores : x.ignored_never_persisted ≡ count_by (λ (f : Finding). is_some (lost_store f)) a.findings - length x.stores.items
  pub ignored_pairs : x.ignored_overwritten ≡ count_by (λ (f : Finding). is_some (overwriting f)) a.findings - length (told_pairs a.trace labels o.ignored a.findings)

-- What is found in an analysed trace, with these labels, where this is asked.
pub record AreParts (a : Analysed) (labels : Labels) (o : Options) (p : Parts) : Type 0 where
  pub label_numbers : AreLabelNumbers labels (length a.trace.events) p.label_numbers.items
  pub frames : AreFrameNumbers labels (length a.trace.events) p.frames.items
  pub found : AreFound a labels p.label_numbers.items p.frames.items o p.found
