-- What an explanation begins with, its counts, the status of a run, and the numbers of labels.
use Rattle.std.specs.Prelude.{◌≡◌, ℕ, ◌-◌, ◌*◌, ◌/◌, ◌^◌, ◌==◌, min, if◌then◌else◌, Bool, true, false, List, count_by, length, ◌||◌, not, ◌<◌, ◌≤◌, Option, None, Some, bytes_eq}
use Rattle.std.specs.List.{list_any, range_with_len}
use Rattle.pmt_model.specs.declared.event.Event.{Event}
use Rattle.pmt_causes.specs.Late.{is_fence, is_flush, is_store}
use Rattle.pmt_reasons.specs.declared.reason.Reason.{Reason}
use Rattle.pmt_reasons.specs.declared.reason.Reason.TheVariants.{Safe, Unfenced, Repeated, Overtaken, Empty, Useless}
use Rattle.pmt_entries.specs.Prelude.{Dropped, label_of as number_of}
use Rattle.pmt_explanation.specs.Prelude.{Entries, Verdict, Nothing, Fail, Lost, Suspect, Check, ProbablyOk, Ok, OkSoFar, is_any_with, Labels, label_of, frame_of}
use Rattle.std.specs.Borrow.{Bor}
use Rattle.std.specs.declared.hash.FoldHasher.{FoldHasher}
use Rattle.std.specs.declared.hash.BuildHasherDefault.{BuildHasherDefault}
use Rattle.std.specs.HashMap.{HashMap, get_by}
use Rattle.pmt_explanation.specs.declared.counting.Counts.{Counts}
use Rattle.pmt_explanation.specs.declared.explaining.Explanation.{Explanation}
use Rattle.pmt_explanation.specs.declared.summing.Summary.{Summary}
use Rattle.pmt_entries.specs.declared.weight.Weight.TheVariants as weights

-- It is a fence that is dropped for this reason.
abbrev pub is_reason_of_fence : Reason → Bool
is_reason_of_fence Safe = false
is_reason_of_fence Unfenced = false
is_reason_of_fence (Repeated by) = false
is_reason_of_fence (Overtaken by) = false
is_reason_of_fence Empty = true
is_reason_of_fence Useless = true

-- The whole per cent that the part is of the whole, rounded down; 0 of nothing. A product past 64 bits counts as the highest number.
abbrev pub per_cent : ℕ → ℕ → ℕ
per_cent part whole = if whole == 0 then 0 else min (min part whole * 100) (2 ^ 64 - 1) / whole

-- Thread t has made one of the events.
abbrev pub has_made : List Event → ℕ → Bool
has_made events t = list_any (λ (e : Event). e.thread == t) events

-- How many threads have made the events: their numbers are below 256.
unfoldable pub threads_of : List Event → ℕ
threads_of events = count_by (has_made events) (range_with_len 0 256)

-- The counts are those of the events.
pub record AreCounts (events : List Event) (c : Counts) : Type 0 where
  pub stores : c.stores ≡ count_by (λ (e : Event). is_store e.op) events
  pub flushes : c.flushes ≡ count_by (λ (e : Event). is_flush e.op) events
  pub fences : c.fences ≡ count_by (λ (e : Event). is_fence e.op) events
  pub threads : c.threads ≡ threads_of events

-- How many fences are dropped.
abbrev pub fences_dropped : Explanation → ℕ
fences_dropped x = count_by (λ (d : Dropped). is_reason_of_fence d.reason) x.dropped.items

-- The counts of the explanation.
pub record IsSummary (x : Explanation) (s : Summary) : Type 0 where
  pub events : s.events ≡ length x.analysis.trace.events
  pub threads : s.threads ≡ threads_of x.analysis.trace.events
  pub cache_lines : s.cache_lines ≡ x.analysis.lines
  pub assertions : s.assertions ≡ length x.analysis.verdicts
  pub failing : s.failing ≡ length x.failing.items
  pub stores : s.stores ≡ count_by (λ (e : Event). is_store e.op) x.analysis.trace.events
  pub never_persisted : s.never_persisted ≡ length x.stores.items
  pub flushes : s.flushes ≡ count_by (λ (e : Event). is_flush e.op) x.analysis.trace.events
  pub flushes_dropped : s.flushes_dropped ≡ length x.dropped.items - fences_dropped x
  pub fences : s.fences ≡ count_by (λ (e : Event). is_fence e.op) x.analysis.trace.events
  pub fences_dropped : s.fences_dropped ≡ fences_dropped x
  pub ignored_never_persisted : s.ignored_never_persisted ≡ x.ignored_never_persisted
  pub ignored_overwritten : s.ignored_overwritten ≡ x.ignored_overwritten

-- The verdict makes the status 1, if what is lost is known (of a trace that was cut it is not), and if the caller is strict.
abbrev pub verdict_fails : Verdict → Bool → Bool → Bool
verdict_fails Nothing knows strict = false
verdict_fails Fail knows strict = true
verdict_fails Lost knows strict = strict || knows
verdict_fails Suspect knows strict = true
verdict_fails Check knows strict = strict
verdict_fails ProbablyOk knows strict = strict
verdict_fails Ok knows strict = false
verdict_fails OkSoFar knows strict = false

-- The verdict does. Where what is lost is not known, an entry that weighs Suspect still does so behind one that weighs Lost.
abbrev pub fails : Entries → Bool → Bool → Bool
fails x is_cut strict = verdict_fails x.verdict (not is_cut || is_any_with weights.Suspect x.entries.items) strict

-- ---- The numbers of innermost frames

-- Event j is the first one that has this frame.
pub record IsFirstFrame (labels : Labels) (frame : List ℕ) (j : ℕ) : Type 0 where
  pub event : 0 < j
  pub own : frame_of labels j ≡ Some frame
  pub first : (i : ℕ) → 0 < i → i < j → ¬ (frame_of labels i ≡ Some frame)

-- The number of the innermost frame of event i: that of the first event which has it; none where event i has no label.
abbrev pub IsFrameNumber : Labels → ℕ → Option ℕ → Type 0
IsFrameNumber labels i None = label_of labels i ≡ None
IsFrameNumber labels i (Some j) = (frame : List ℕ) × (frame_of labels i ≡ Some frame) × IsFirstFrame labels frame j

-- The numbers of the innermost frames of the first n events. Where the list ends before that, no later one of them has a label.
pub record AreFrameNumbers (labels : Labels) (n : ℕ) (frames : List (Option ℕ)) : Type 0 where
  pub size : length frames ≤ n
  pub each : (i : ℕ) → 0 < i → i ≤ n → IsFrameNumber labels i (number_of frames i)

-- The first one of the first n events that has this frame; none where they don't have it.
abbrev pub IsFrameAmong : Labels → ℕ → List ℕ → Option ℕ → Type 0
IsFrameAmong labels n frame None = (i : ℕ) → 0 < i → i ≤ n → ¬ (frame_of labels i ≡ Some frame)
IsFrameAmong labels n frame (Some j) = (j ≤ n) × IsFirstFrame labels frame j

-- Of each frame the first one of the first n events that has it.
abbrev pub AreFirstFrames : Labels → ℕ → (List ℕ → Option ℕ) → Type 0
AreFirstFrames labels n first = (frame : List ℕ) → IsFrameAmong labels n frame (first frame)

-- ---- The numbers of labels

-- Event j is the first one that has this label.
pub record IsFirstWith (labels : Labels) (text : List ℕ) (j : ℕ) : Type 0 where
  pub event : 0 < j
  pub own : label_of labels j ≡ Some text
  pub first : (i : ℕ) → 0 < i → i < j → ¬ (label_of labels i ≡ Some text)

-- The number of the label of event i: that of the first event which has it; none where event i has no label.
abbrev pub IsLabelNumber : Labels → ℕ → Option ℕ → Type 0
IsLabelNumber labels i None = label_of labels i ≡ None
IsLabelNumber labels i (Some j) = (text : List ℕ) × (label_of labels i ≡ Some text) × IsFirstWith labels text j

-- The numbers of the labels of the first n events. Where the list ends before that, no later one of them has a label.
pub record AreLabelNumbers (labels : Labels) (n : ℕ) (numbers : List (Option ℕ)) : Type 0 where
  pub size : length numbers ≤ n
  pub each : (i : ℕ) → 0 < i → i ≤ n → IsLabelNumber labels i (number_of numbers i)

-- The first one of the first n events that has this label; none where they don't have it.
abbrev pub IsFirstAmong : Labels → ℕ → List ℕ → Option ℕ → Type 0
IsFirstAmong labels n text None = (i : ℕ) → 0 < i → i ≤ n → ¬ (label_of labels i ≡ Some text)
IsFirstAmong labels n text (Some j) = (j ≤ n) × IsFirstWith labels text j

-- Of each label the first one of the first n events that has it.
abbrev pub AreFirsts : Labels → ℕ → (List ℕ → Option ℕ) → Type 0
AreFirsts labels n first = (text : List ℕ) → IsFirstAmong labels n text (first text)

abbrev pub Firsts : Type 0
Firsts = HashMap (Bor (List ℕ)) ℕ (BuildHasherDefault FoldHasher)

-- What the map has of the text.
abbrev pub first_in : Firsts → List ℕ → Option ℕ
first_in firsts text = get_by (λ (k : Bor (List ℕ)). bytes_eq text k.now) firsts
