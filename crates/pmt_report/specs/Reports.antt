-- The texts that runs write: the report of an analysis with its entries, and the fronts of a trace at a place.
use Rattle.std.specs.Prelude.{ℕ, nat_lt, Bool, true, false, if◌then◌else◌, List, [], ◌∷◌, ◌++◌, codes, ◌≡◌, ◌≤◌, ◌-◌, ◌*◌, length, ◌^◌, ◌<◌, All, Option}
use Rattle.pmt_laws.specs.Prelude.{Finding, Overwritten, NeverPersisted, RedundantFlush, FenceWithoutFlush, Verdict, reported_at, InReportOrder, InEventOrder, Recording, history, count_at, lines_of, front_at, flat_map}
use Rattle.pmt_text.specs.Spelling.{numeral, ended, address}
use Rattle.pmt_text.specs.declared.source.SourceState.{SourceState}
use Rattle.pmt_text.specs.Coming.{Coming}
use Rattle.pmt_taking.specs.Sourcing.{TakesFirst}
use Rattle.pmt_book.specs.Live.{IsLive}
use Rattle.pmt_report.specs.declared.first_lines.TraceLines.{TraceLines}

abbrev pub flushed_word : Bool → List ℕ
flushed_word true = codes " flushed"
flushed_word false = codes " dirty"

abbrev pub finding_line : Finding → List ℕ
finding_line (Overwritten earlier later) = codes "overwritten " ++ numeral 10 earlier ++ codes " by " ++ numeral 10 later
finding_line (NeverPersisted event flushed) = codes "never-persisted " ++ numeral 10 event ++ flushed_word flushed
finding_line (RedundantFlush event) = codes "redundant-flush " ++ numeral 10 event
finding_line (FenceWithoutFlush event) = codes "fence-without-flush " ++ numeral 10 event

abbrev pub assertion_word : Bool → List ℕ
assertion_word true = codes "ordered "
assertion_word false = codes "persist "

abbrev pub verdict_word : Bool → List ℕ
verdict_word true = codes " pass"
verdict_word false = codes " fail"

abbrev pub verdict_line : Verdict → List ℕ
verdict_line v = assertion_word v.ordered ++ numeral 10 v.event ++ verdict_word v.pass

abbrev pub finding_entry : Finding → List ℕ
finding_entry f = ended (finding_line f)

abbrev pub verdict_entry : Verdict → List ℕ
verdict_entry v = ended (verdict_line v)

-- The verdicts of the events before this one, and those of the others.
abbrev pub verdicts_before : ℕ → List Verdict → List Verdict
verdicts_before number [] = []
verdicts_before number (v ∷ verdicts) = if nat_lt v.event number then v ∷ verdicts_before number verdicts else []

abbrev pub verdicts_from : ℕ → List Verdict → List Verdict
verdicts_from number [] = []
verdicts_from number (v ∷ verdicts) = if nat_lt v.event number then verdicts_from number verdicts else v ∷ verdicts

-- Whether the verdict is of an event before the first of these findings, or none is left.
abbrev pub is_before : Verdict → List Finding → Bool
is_before verdict [] = true
is_before verdict (f ∷ findings) = nat_lt verdict.event (reported_at f)

-- The entries of findings in report order and of verdicts in event order: the verdicts of earlier events stand before a finding.
unfoldable pub entries : List Finding → List Verdict → List ℕ
entries [] verdicts = flat_map verdict_entry verdicts
entries (f ∷ findings) verdicts =
    flat_map verdict_entry (verdicts_before (reported_at f) verdicts) ++ finding_entry f ++ entries findings (verdicts_from (reported_at f) verdicts)

-- ---- The entries of a report as a list: the findings and the verdicts, each with its line, by event number

-- What a line of a report tells.
pub data Entry : Type 0 where
  OfFinding : Finding → Entry
  OfVerdict : Verdict → Entry

-- Its event.
abbrev pub event_of : Entry → ℕ
event_of (OfFinding f) = reported_at f
event_of (OfVerdict v) = v.event

-- Its line.
abbrev pub line_of_entry : Entry → List ℕ
line_of_entry (OfFinding f) = finding_entry f
line_of_entry (OfVerdict v) = verdict_entry v

-- The findings among the entries, in order.
abbrev pub findings_in : List Entry → List Finding
findings_in [] = []
findings_in (OfFinding f ∷ es) = f ∷ findings_in es
findings_in (OfVerdict v ∷ es) = findings_in es

-- The verdicts among them.
abbrev pub verdicts_in : List Entry → List Verdict
verdicts_in [] = []
verdicts_in (OfFinding f ∷ es) = verdicts_in es
verdicts_in (OfVerdict v ∷ es) = v ∷ verdicts_in es

-- No entry is of an earlier event than the one before it; one event may have several.
abbrev pub GoByEvent : ℕ → List Entry → Type 0
GoByEvent low [] = Unit {0}
GoByEvent low (e ∷ es) = (low ≤ event_of e) × GoByEvent (event_of e) es

-- The text is the lines of these findings and verdicts, each once, and of nothing else, by event number.
pub record IsListing (findings : List Finding) (verdicts : List Verdict) (text : List ℕ) : Type 0 where
  pub listed : List Entry
  pub text_is : flat_map line_of_entry listed ≡ text
  pub ordered : GoByEvent 0 listed
  pub findings_are : findings_in listed ≡ findings
  pub verdicts_are : verdicts_in listed ≡ verdicts

-- The entries of a report are such a text.
abbrev pub EntriesAreListing : Type 0
EntriesAreListing =
    (findings : List Finding) (verdicts : List Verdict) → InReportOrder findings → InEventOrder 0 verdicts → IsListing findings verdicts (entries findings verdicts)

-- ---- The texts that runs write: the report of an analysis, and the fronts of a trace at a place

-- The first line of a report: how many events there are, and how many lines are stored or flushed.
abbrev pub report_head : ℕ → ℕ → List ℕ
report_head events lines = ended (codes "events " ++ numeral 10 events ++ codes " lines " ++ numeral 10 lines)

-- The last line of a report: how many events are kept, of how many.
abbrev pub report_end : ℕ → ℕ → List ℕ
report_end events kept = ended (codes "kept " ++ numeral 10 kept ++ codes " dropped " ++ numeral 10 (events - kept))

-- The report of so many events in so many lines, with these findings and verdicts, where so many events are kept.
unfoldable pub report : ℕ → ℕ → List Finding → List Verdict → ℕ → List ℕ
report events lines findings verdicts kept = report_head events lines ++ entries findings verdicts ++ report_end events kept

-- The first line of a fronts text: the place, and how many lines are stored or flushed by then.
abbrev pub fronts_head : ℕ → ℕ → List ℕ
fronts_head place lines = ended (codes "place " ++ numeral 10 place ++ codes " lines " ++ numeral 10 lines)

-- A line by its first address, with its front and its number of stores.
abbrev pub front_entry : ℕ → ℕ → ℕ → List ℕ
front_entry addr front count = ended (codes "line " ++ address addr ++ codes " front " ++ numeral 10 front ++ codes " count " ++ numeral 10 count)

-- The lines that are stored or flushed among the first n events, in order of first appearance.
abbrev pub lines_at : Recording → ℕ → List ℕ
lines_at T n = lines_of (history T n)

-- A line of the trace, with its front and its number of stores at place n.
abbrev pub line_entry : Recording → ℕ → ℕ → List ℕ
line_entry T n l = front_entry (l * T.format.line_size) (front_at T l n) (count_at T l n)

-- The fronts of the trace at place n.
unfoldable pub fronts_text : Recording → ℕ → List ℕ
fronts_text T n = fronts_head n (length (lines_at T n)) ++ flat_map (line_entry T n) (lines_at T n)

-- The lines of the trace are known at its end, and each has a first address of 48 bits.
pub record AreLinesOf (T : Recording) (lines : TraceLines) : Type 0 where
  pub format : lines.format ≡ T.format
  pub counted : lines.events ≡ length T.events
  pub live : IsLive (history T (length T.events)) lines.live
  pub low : All (λ l. l * T.format.line_size < 2 ^ 48) (lines_at T (length T.events))

-- They are those of the first events that come, at most so many.
pub record TakesLines (most : ℕ) (old new : Option Coming) (before after : SourceState) (lines : TraceLines) : Type 0 where
  pub trace : Recording
  pub known : AreLinesOf trace lines
  pub first : TakesFirst most old new before after trace
