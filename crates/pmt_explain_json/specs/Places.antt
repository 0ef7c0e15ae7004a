-- What becomes of each place of the source, groups of findings and hints, as JSON.
use Rattle.std.specs.Prelude.{ℕ, Bool, true, false, List, [], ◌∷◌, Option, None, Some, codes, length, map}
use Rattle.serde_json.specs.Data.{Data, string}
use Rattle.pmt_model.specs.Traces.{Recording}
use Rattle.pmt_explanation.specs.Prelude.{Origin, PlaceRow, SavedBefore, AssertionKind, Persist, Ordered, CauseKind, Later, Unflushed, Unfenced, FailureKey, Group, Hint, HintKind, OneLineShort, OpenAtStore, SplitWord, StoredAfterFlush, StoredAfterMark, Labels, frame_of, label_of}
use Rattle.pmt_causes.specs.declared.failure_keys.Origin.TheVariants.{Label, Thread}
use Rattle.pmt_explain_json.specs.Entries.{count_data, event_data, json_line, object_of, or_null, array_of}

-- The innermost frame of a place whose events have a label.
abbrev pub place_label : Labels → Origin → Option (List ℕ)
place_label labels (Label n) = frame_of labels n
place_label labels (Thread t) = None

-- The thread of a place whose events have none.
abbrev pub place_thread : Origin → Option ℕ
place_thread (Label n) = None
place_thread (Thread t) = Some t

-- The label of a row: the innermost frame of a place, or the whole label of a path.
abbrev pub row_label : Labels → Bool → Origin → Option (List ℕ)
row_label labels false p = place_label labels p
row_label labels true (Label n) = label_of labels n
row_label labels true (Thread t) = None

abbrev pub row_kind : Bool → List ℕ
row_kind false = codes "place"
row_kind true = codes "path"

-- What a crash keeps without a store.
abbrev pub saved_data : Recording → Labels → SavedBefore → Data
saved_data T labels s = object_of
    ((codes "place", count_data s.place)
    ∷ (codes "store", event_data T labels s.store)
    ∷ [])

-- What a place has, or a path, if its label is whole.
abbrev pub place_data : Recording → Labels → Bool → PlaceRow → Data
place_data T labels whole r = object_of
    ((codes "fences", count_data r.fences)
    ∷ (codes "fences_dropped", count_data r.idle_fences)
    ∷ (codes "first", event_data T labels r.first)
    ∷ (codes "first_late", or_null (event_data T labels) r.first_late)
    ∷ (codes "first_left", or_null (event_data T labels) r.first_left)
    ∷ (codes "first_never_persisted", or_null (event_data T labels) r.first_lost)
    ∷ (codes "flushes", count_data r.flushes)
    ∷ (codes "flushes_dropped", count_data r.idle_flushes)
    ∷ (codes "ignored", count_data r.ignored)
    ∷ (codes "in_time", count_data r.in_time)
    ∷ (codes "kind", string (row_kind whole))
    ∷ (codes "label", or_null string (row_label labels whole r.place))
    ∷ (codes "late", count_data r.late)
    ∷ (codes "left", count_data r.left)
    ∷ (codes "never_persisted", count_data r.lost)
    ∷ (codes "saved_before", or_null (saved_data T labels) r.saved_before)
    ∷ (codes "stores", count_data r.stores)
    ∷ (codes "thread", or_null count_data (place_thread r.place))
    ∷ [])

abbrev pub place_line : Recording → Labels → Bool → PlaceRow → List ℕ
place_line T labels whole r = json_line (place_data T labels whole r)

-- ---- Groups of findings as JSON

abbrev pub assertion_name : AssertionKind → List ℕ
assertion_name Persist = codes "isPersist"
assertion_name Ordered = codes "isOrderedBefore"

abbrev pub cause_name : CauseKind → List ℕ
cause_name Later = codes "later"
cause_name Unflushed = codes "unflushed"
cause_name Unfenced = codes "unfenced"

-- The failed assertions with one cause.
abbrev pub cause_group_data : Labels → Group FailureKey → Data
cause_group_data labels g = object_of
    ((codes "assertion", string (assertion_name g.key.kind))
    ∷ (codes "count", count_data (length g.members.items))
    ∷ (codes "events", array_of (map count_data g.members.items))
    ∷ (codes "kind", string (codes "cause"))
    ∷ (codes "label", or_null string (place_label labels g.key.origin))
    ∷ (codes "thread", or_null count_data (place_thread g.key.origin))
    ∷ (codes "why", string (cause_name g.key.cause))
    ∷ [])

abbrev pub cause_line : Labels → Group FailureKey → List ℕ
cause_line labels g = json_line (cause_group_data labels g)

-- ---- Hints as JSON

-- The name of a kind of hint.
abbrev pub hint_name : HintKind → List ℕ
hint_name OpenAtStore = codes "open_at_store"
hint_name StoredAfterFlush = codes "stored_after_flush"
hint_name SplitWord = codes "split_word"
hint_name OneLineShort = codes "one_line_short"
hint_name StoredAfterMark = codes "stored_after_mark"

-- The label that a path is.
abbrev pub path_label : Labels → Option ℕ → Option (List ℕ)
path_label labels None = None
path_label labels (Some n) = label_of labels n

-- The events of one kind of hint that come from one place, or from one path.
abbrev pub hint_data : Recording → Labels → Hint → Data
hint_data T labels h = object_of
    ((codes "count", count_data h.count)
    ∷ (codes "first", event_data T labels h.first)
    ∷ (codes "hint", string (hint_name h.kind))
    ∷ (codes "kind", string (codes "hint"))
    ∷ (codes "label", or_null string (place_label labels h.place))
    ∷ (codes "path", or_null string (path_label labels h.path))
    ∷ (codes "thread", or_null count_data (place_thread h.place))
    ∷ [])

abbrev pub hint_line : Recording → Labels → Hint → List ℕ
hint_line T labels h = json_line (hint_data T labels h)
