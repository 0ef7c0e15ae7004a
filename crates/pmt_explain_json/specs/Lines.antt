-- All lines of JSON of an explanation: its counts, the verdict, the entries by weight, and its tables.
use Rattle.std.specs.Prelude.{ℕ, ◌+◌, ◌-◌, ◌^◌, min, Bool, true, false, List, length, Option, None, Some, slice_get, [], ◌∷◌, map, take, if◌then◌else◌, codes, ◌++◌, ◌≡◌, ◌==◌, string_bytes}
use Rattle.pmt_explanation.specs.Prelude.{FailureKey, Origin, Group, first_in, PlaceRow, Hint, HintKind, LateSpot, Label, Line, Entries, Subject, LossKey, Site, Choice, tells_all, frame_of, kind_name, Labels, Entry, Verdict, Weight, ByteRange, ShownCrash, AreShownCrashes}
use Rattle.pmt_explanation.specs.declared.explaining.Explanation.{Explanation}
use Rattle.serde_json.specs.Data.{Data, boolean, string}
use Rattle.std.specs.List.{flat_map, list_any}
use Rattle.pmt_model.specs.Traces.{Recording}
use Rattle.serde_json.specs.Written.{compact_text}
use Rattle.pmt_explanation.specs.declared.summing.Summary.{Summary}
use Rattle.pmt_explanation.specs.Summing.{per_cent, IsSummary}
use Rattle.pmt_explain_json.specs.declared.facts.Facts.{Facts}
use Rattle.pmt_explain_json.specs.declared.facts.Why.{Why}
use Rattle.pmt_explain_json.specs.Places.{cause_name, cause_line, hint_name, path_label, hint_line, place_label, place_thread, place_line}
use Rattle.pmt_explain_json.specs.Entries.{array_of, count_data, event_data, json_line, object_of, or_null, line_data, address_data, failure_line, lost_line, dropped_line, overwritten_line, unwritten_line}
use Rattle.pmt_explain_json.specs.declared.lacking.Lack.{Lack}
use Rattle.pmt_causes.specs.declared.failure_keys.Origin.TheVariants as origins
use Rattle.pmt_entries.specs.declared.entries.Subject.TheVariants as subjects
use Rattle.pmt_explain_json.specs.declared.facts.Why.TheVariants as whys
use Rattle.pmt_entries.specs.declared.verdict.Verdict.TheVariants as verdicts
use Rattle.pmt_entries.specs.declared.weight.Weight.TheVariants as weights

-- What is told of what loses and delays nothing.
abbrev pub plain_facts : Origin → Option ℕ → ℕ → Option ℕ → Option ℕ → Why → Facts
plain_facts p path n of first why =
    record { site = p; path = path; count = n; of = of; first = first; why = why; sign = None; has_contrast = false; is_claimed = false; is_scratch = false }

-- Of a group of failed assertions.
abbrev pub failure_facts : Option (Group FailureKey) → Option Facts
failure_facts None = None
failure_facts (Some g) = Some (plain_facts g.key.origin None (length g.members.items) None (Some (first_in g)) (whys.Failure g.key.cause))

abbrev pub missed_why : Bool → Why
missed_why true = whys.Lost
missed_why false = whys.Late

abbrev pub kind_of : Option Hint → Option HintKind
kind_of None = None
kind_of (Some h) = Some h.kind

-- The kind of the hint with this index.
abbrev pub sign_of : List Hint → Option ℕ → Option HintKind
sign_of hints None = None
sign_of hints (Some n) = kind_of (slice_get hints n)

-- Of sites of which this is the first: of how many of its stores, and what is known of it.
abbrev pub site_facts : Bool → List Hint → Site → Facts
site_facts loses hints s = record {
  site = s.row.place;
  path = None;
  count = min (s.row.lost + s.row.late) (2 ^ 64 - 1);
  of = Some s.row.stores;
  first = Some s.first;
  why = missed_why loses;
  sign = sign_of hints s.sign;
  has_contrast = s.has_contrast;
  is_claimed = s.is_claimed;
  is_scratch = s.is_scratch;
}

abbrev pub first_site_facts : Bool → List Hint → Option Site → Option Facts
first_site_facts loses hints None = None
first_site_facts loses hints (Some s) = Some (site_facts loses hints s)

-- Of sites that lose or delay stores together.
abbrev pub loss_facts : Entries → List Hint → Option (Group LossKey) → Option Facts
loss_facts es hints None = None
loss_facts es hints (Some g) = first_site_facts g.key.loses hints (slice_get es.sites.items (first_in g))

abbrev pub hint_facts : Option Hint → Option Facts
hint_facts None = None
hint_facts (Some h) = Some (plain_facts h.place h.path h.count None (Some h.first) (whys.Hint h.kind))

-- The label that the place is, if it is a whole one.
abbrev pub left_path : Bool → Origin → Option ℕ
left_path true (origins.Label n) = Some n
left_path true (origins.Thread t) = None
left_path false p = None

-- Of a site or path each of whose stores is saved one fence late.
abbrev pub left_facts : Bool → Option PlaceRow → Option Facts
left_facts whole None = None
left_facts whole (Some r) = Some (plain_facts r.place (left_path whole r.place) r.left (Some r.stores) r.first_left whys.Left)

-- Of an entry with this subject, if the explanation has that.
abbrev pub facts_of : Explanation → Subject → Option Facts
facts_of x (subjects.Failure n) = failure_facts (slice_get x.causes.items n)
facts_of x (subjects.Loss n) = loss_facts x.entries x.hints.items (slice_get x.entries.losses.items n)
facts_of x (subjects.Hint n) = hint_facts (slice_get x.hints.items n)
facts_of x (subjects.Left n) = left_facts false (slice_get x.places.items n)
facts_of x (subjects.LeftPath n) = left_facts true (slice_get x.left_paths.items n)

-- ---- The verdict, and the entries by weight, as JSON

abbrev pub verdict_name : Verdict → List ℕ
verdict_name verdicts.Nothing = codes "nothing"
verdict_name verdicts.Fail = codes "fail"
verdict_name verdicts.Lost = codes "lost"
verdict_name verdicts.Suspect = codes "suspect"
verdict_name verdicts.Check = codes "check"
verdict_name verdicts.ProbablyOk = codes "probably_ok"
verdict_name verdicts.Ok = codes "ok"
verdict_name verdicts.OkSoFar = codes "ok_so_far"

abbrev pub weight_name : Weight → List ℕ
weight_name weights.Fail = codes "fail"
weight_name weights.Lost = codes "lost"
weight_name weights.Suspect = codes "suspect"
weight_name weights.Check = codes "check"
weight_name weights.Meant = codes "meant"

abbrev pub subject_name : Subject → List ℕ
subject_name (subjects.Failure n) = codes "failure"
subject_name (subjects.Loss n) = codes "stores"
subject_name (subjects.Hint n) = codes "hint"
subject_name (subjects.Left n) = codes "left"
subject_name (subjects.LeftPath n) = codes "left"

abbrev pub why_name : Why → List ℕ
why_name (whys.Failure c) = cause_name c
why_name whys.Lost = codes "never_persisted"
why_name whys.Late = codes "late"
why_name (whys.Hint k) = hint_name k
why_name whys.Left = codes "left"

abbrev pub site_data : Labels → Origin → Data
site_data labels p = object_of
    ((codes "label", or_null string (place_label labels p))
    ∷ (codes "thread", or_null count_data (place_thread p))
    ∷ [])

abbrev pub place_of : Option Site → Option Origin
place_of None = None
place_of (Some s) = Some s.row.place

-- The site with this index.
abbrev pub site_at : Labels → List Site → ℕ → Data
site_at labels sites n = or_null (site_data labels) (place_of (slice_get sites n))

abbrev pub members_of : Option (Group LossKey) → List ℕ
members_of None = []
members_of (Some g) = g.members.items

-- The sites of an entry: of a loss the first 100, and else this one.
abbrev pub sites_data : Labels → Entries → Subject → Origin → Data
sites_data labels es (subjects.Loss n) p = array_of (map (site_at labels es.sites.items) (take 100 (members_of (slice_get es.losses.items n))))
sites_data labels es s p = array_of (site_data labels p ∷ [])

-- How many more there are.
abbrev pub sites_left : Entries → Subject → ℕ
sites_left es (subjects.Loss n) = length (members_of (slice_get es.losses.items n)) - 100
sites_left es s = 0

-- An entry that tells these facts.
abbrev pub entry_data : Explanation → Labels → Entry → Facts → Data
entry_data x labels e f = object_of
    ((codes "claimed", boolean f.is_claimed)
    ∷ (codes "contrast", boolean f.has_contrast)
    ∷ (codes "count", count_data f.count)
    ∷ (codes "first", or_null (event_data x.analysis.trace labels) f.first)
    ∷ (codes "kind", string (codes "entry"))
    ∷ (codes "more_sites", count_data (sites_left x.entries e.subject))
    ∷ (codes "of", or_null count_data f.of)
    ∷ (codes "path", or_null string (path_label labels f.path))
    ∷ (codes "scratch", boolean f.is_scratch)
    ∷ (codes "sign", or_null (λ (k : HintKind). string (hint_name k)) f.sign)
    ∷ (codes "sites", sites_data labels x.entries e.subject f.site)
    ∷ (codes "subject", string (subject_name e.subject))
    ∷ (codes "why", string (why_name f.why))
    ∷ (codes "word", string (weight_name e.weight))
    ∷ [])

abbrev pub told_line : Explanation → Labels → Entry → Option Facts → List ℕ
told_line x labels e None = []
told_line x labels e (Some f) = json_line (entry_data x labels e f)

abbrev pub entry_line : Explanation → Labels → Entry → List ℕ
entry_line x labels e = told_line x labels e (facts_of x e.subject)

-- The entries, where no option chooses findings.
abbrev pub told_entries : Explanation → Choice → List Entry
told_entries x c = if tells_all c then x.entries.entries.items else []

-- ---- Places, paths, hints and late stores as JSON

-- The line of stores that have no label.
abbrev pub spot_line : LateSpot → Option ℕ
spot_line (Label n) = None
spot_line (Line l) = Some l

-- The innermost frame of stores of one place in the program.
abbrev pub spot_label : Labels → LateSpot → Option (List ℕ)
spot_label labels (Label n) = frame_of labels n
spot_label labels (Line l) = None

-- The late stores of one place.
abbrev pub late_data : Recording → Labels → Group LateSpot → Data
late_data T labels g = object_of
    ((codes "cache_line", or_null (line_data T) (spot_line g.key))
    ∷ (codes "count", count_data (length g.members.items))
    ∷ (codes "first", event_data T labels (first_in g))
    ∷ (codes "kind", string (codes "late"))
    ∷ (codes "label", or_null string (spot_label labels g.key))
    ∷ [])

abbrev pub late_line : Recording → Labels → Group LateSpot → List ℕ
late_line T labels g = json_line (late_data T labels g)

-- The places, the paths, the hints and the late stores: of each kind at most as many as the limit says, the first ones.
unfoldable pub table_lines : Explanation → Labels → List ℕ
table_lines x labels =
    flat_map (place_line x.analysis.trace labels false) (take x.limit x.places.items)
    ++ flat_map (place_line x.analysis.trace labels true) (take x.limit x.left_paths.items)
    ++ flat_map (hint_line x.analysis.trace labels) (take x.limit x.asked_hints.items)
    ++ flat_map (late_line x.analysis.trace labels) (take x.limit x.late.items)

-- No LF is in the text of a value.
abbrev pub TextHasNoLf : Type 0
TextHasNoLf = (d : Data) → list_any (λ c. c == 10) (compact_text d) ≡ false

-- ---- All lines of JSON of an explanation, and the counts that they begin with

-- How many entries are not shown.
abbrev pub more_data : Explanation → Choice → Data
more_data x c = object_of
    ((codes "cause", count_data (length x.causes.items - x.limit))
    ∷ (codes "dropped", count_data (length x.asked_dropped.items - x.limit))
    ∷ (codes "entry", count_data (length (told_entries x c) - x.limit))
    ∷ (codes "failure", count_data (length x.causes.items - x.limit))
    ∷ (codes "hint", count_data (length x.asked_hints.items - x.limit))
    ∷ (codes "late", count_data (length x.late.items - x.limit))
    ∷ (codes "never_persisted", count_data (length x.lost.items - x.limit))
    ∷ (codes "overwritten", count_data (length x.overwritten.items - x.limit))
    ∷ (codes "path", count_data (length x.left_paths.items - x.limit))
    ∷ (codes "place", count_data (length x.places.items - x.limit))
    ∷ (codes "unwritten", count_data (length x.unwritten.items - x.limit))
    ∷ [])

abbrev pub byte_range_data : ByteRange → Data
byte_range_data r = object_of ((codes "address", address_data r.addr) ∷ (codes "length", count_data r.len) ∷ [])

-- What is asked for.
abbrev pub asked_data : Choice → Data
asked_data c = object_of
    ((codes "from", or_null count_data c.from)
    ∷ (codes "label", or_null (λ s. string (string_bytes s)) c.label)
    ∷ (codes "only", or_null (λ k. string (kind_name k)) c.only)
    ∷ (codes "range", or_null byte_range_data c.range)
    ∷ (codes "thread", or_null count_data c.thread)
    ∷ (codes "to", or_null count_data c.to)
    ∷ [])

abbrev pub lack_data : Lack → Data
lack_data l = object_of
    ((codes "count", or_null count_data l.count) ∷ (codes "kind", string (string_bytes l.kind)) ∷ (codes "what", string (string_bytes l.what)) ∷ [])

-- The counts, the verdict, what is asked for, what the trace lacks, how many entries of each kind are shown at most, and how many are not shown.
abbrev pub summary_data : Summary → ℕ → Choice → Data → List Lack → Verdict → Data
summary_data s limit c more lacks v = object_of
    ((codes "asked", asked_data c)
    ∷ (codes "assertions", count_data s.assertions)
    ∷ (codes "cache_lines", count_data s.cache_lines)
    ∷ (codes "events", count_data s.events)
    ∷ (codes "failing", count_data s.failing)
    ∷ (codes "fences", count_data s.fences)
    ∷ (codes "fences_dropped", count_data s.fences_dropped)
    ∷ (codes "fences_dropped_percent", count_data (per_cent s.fences_dropped s.fences))
    ∷ (codes "flushes", count_data s.flushes)
    ∷ (codes "flushes_dropped", count_data s.flushes_dropped)
    ∷ (codes "flushes_dropped_percent", count_data (per_cent s.flushes_dropped s.flushes))
    ∷ (codes "ignored_never_persisted", count_data s.ignored_never_persisted)
    ∷ (codes "ignored_overwritten", count_data s.ignored_overwritten)
    ∷ (codes "kind", string (codes "summary"))
    ∷ (codes "lacks", array_of (map lack_data lacks))
    ∷ (codes "limit", count_data limit)
    ∷ (codes "more", more)
    ∷ (codes "never_persisted", count_data s.never_persisted)
    ∷ (codes "schema", count_data 4)
    ∷ (codes "stores", count_data s.stores)
    ∷ (codes "threads", count_data s.threads)
    ∷ (codes "verdict", string (verdict_name v))
    ∷ [])

abbrev pub summary_line : Explanation → Choice → Summary → List Lack → List ℕ
summary_line x c s lacks = json_line (summary_data s x.limit c (more_data x c) lacks x.entries.verdict)

-- The summary, the entries by weight, and those of each kind, an object a line: of each kind at most as many as the limit says, the first ones; and what the
-- crashes of the failed assertions leave.
unfoldable pub json_lines : Explanation → Choice → Summary → List Lack → List ShownCrash → Labels → List ℕ
json_lines x c s lacks crashes labels =
    summary_line x c s lacks
    ++ flat_map (entry_line x labels) (take x.limit (told_entries x c))
    ++ flat_map (cause_line labels) (take x.limit x.causes.items)
    ++ flat_map (failure_line x.analysis.trace labels) crashes
    ++ flat_map (lost_line x.analysis.trace labels) (take x.limit x.lost.items)
    ++ flat_map (dropped_line x.analysis.trace labels) (take x.limit x.asked_dropped.items)
    ++ flat_map (overwritten_line x.analysis.trace labels) (take x.limit x.overwritten.items)
    ++ flat_map (unwritten_line x.analysis.trace labels) (take x.limit x.unwritten.items)
    ++ table_lines x labels

-- The text is the explanation's, with its counts, with what was asked for and with what the trace lacks.
abbrev pub IsJsonText : Explanation → Labels → Choice → List Lack → List ℕ → Type 0
IsJsonText x labels c lacks text =
    (s : Summary) × (crashes : List ShownCrash) × IsSummary x s × AreShownCrashes x.analysis.trace x.failures.items crashes × (text ≡ json_lines x c s lacks crashes labels)
