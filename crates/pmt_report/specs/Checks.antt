-- What a check tells of a trace, what is found where no events are kept, and what comes from its source.
use Rattle.std.specs.Prelude.{◌≡◌, Bool, true, false, ℕ, List, Option, Some, None, IfSome, ◌||◌, not, length, Result, Ok, Err}
use Rattle.pmt_laws.specs.Prelude.{Recording, Event, Finding, Overwritten, NeverPersisted, RedundantFlush, FenceWithoutFlush, Verdict, IsTrace, IsAnalysis, list_any}
use Rattle.pmt_text.specs.Coming.{ComesWhole, Coming}
use Rattle.pmt_taking.specs.Sourcing.{TellsEnd, Shown}
use Rattle.pmt_taking.proofs.SourceRunLemmas.{SoFar, SameReads}
use Rattle.pmt_text.specs.declared.kind.SourceError.{SourceError}
use Rattle.pmt_text.specs.declared.kind.SourceError.TheVariants.{Text, TooMany, Read, OutOfMemory, Failed}
use Rattle.std.specs.Io.KnownBytes.{Appends}
use Rattle.pmt_analysis.specs.Analysing.{Analysed, IsAnalysed}
use Rattle.pmt_tables.specs.Flags.{marked_from}
use Rattle.pmt_sweep.specs.Passing.{HasSwept}
use Rattle.pmt_report.specs.declared.fault.RunError.{RunError}
use Rattle.pmt_report.specs.Reports.{report}
use Rattle.pmt_report.specs.Runs.{IsAnalysisFault, Runs}
use Rattle.pmt_report.specs.declared.checked.CheckedTrace.{CheckedTrace}
use Rattle.pmt_report.specs.declared.checked.Taken.{Taken}

-- all events were taken
pub record IsTakenWhole (first now : Shown) (T : Recording) : Type 0 where
  pub comes : ComesWhole first.coming T
  pub told : TellsEnd first.state now.state
  pub same_reads : SameReads first.failures now.failures

-- T is the trace of the events that were taken; more says whether more may come
pub record IsTakenSoFar (first now : Shown) (T : Recording) (more : Bool) : Type 0 where
  pub on : more ≡ true → SoFar first now T
  pub over : more ≡ false → IsTakenWhole first now T

-- A fault of the text is the one that comes. A failed read and want of memory may come at any time.
abbrev pub IsTakingFault : Option Coming → SourceError → Type 0
IsTakingFault coming (Text f) = IfSome coming (λ c. c.fault ≡ Some (Text f))
IsTakingFault coming TooMany = IfSome coming (λ c. c.fault ≡ Some TooMany)
IsTakingFault coming Read = Unit {0}
IsTakingFault coming OutOfMemory = Unit {0}
IsTakingFault coming Failed = ⊥

-- The count of failed reads stays, where there is one.
abbrev pub KeepsCount : Option ℕ → Option ℕ → Type 0
KeepsCount None new = Unit {0}
KeepsCount (Some n) new = new ≡ Some n

-- These events come, and then the end.
abbrev pub EndsAfter : Option Coming → List Event → Type 0
EndsAfter coming es = IfSome coming (λ c. (c.events ≡ es) × (c.fault ≡ None))

-- ---- What a check tells of a trace, and what is found where no events are kept

-- The report of an analysis.
abbrev pub report_for : Analysed → List ℕ
report_for a = report (length a.trace.events) a.lines a.findings a.verdicts (length a.selection)

abbrev pub is_failure : Verdict → Bool
is_failure v = not v.pass

abbrev pub is_loss : Finding → Bool
is_loss (Overwritten earlier later) = false
is_loss (NeverPersisted event flushed) = true
is_loss (RedundantFlush event) = false
is_loss (FenceWithoutFlush event) = false

-- A verdict fails, or a store is never persisted.
abbrev pub has_failed : Analysed → Bool
has_failed a = list_any is_failure a.verdicts || list_any is_loss a.findings

-- The text is the report of the analysis of the trace, of which there is one.
pub record IsReportOf (T : Recording) (text : List ℕ) : Type 0 where
  pub analysis : Analysed
  pub right : IsAnalysed analysis
  pub of_trace : analysis.trace ≡ T
  pub report : text ≡ report_for analysis

-- Of one analysis of the trace that comes the report is out, whole, and the answer tells whether that analysis has failed.
pub record IsChecked (coming : Option Coming) (old new : Option (List ℕ)) (failed : Bool) : Type 0 where
  pub analysis : Analysed
  pub right : IsAnalysed analysis
  pub all : ComesWhole coming analysis.trace
  pub written : Appends old new (report_for analysis)
  pub judged : failed ≡ has_failed analysis

-- What a check tells: the report and the answer of one analysis; else the report's first bytes are out, or nothing is, and the fault is such a one.
abbrev pub TellsCheck : Option Coming → Option (List ℕ) → Option (List ℕ) → Result Bool RunError → Type 0
TellsCheck coming old new (Ok failed) = IsChecked coming old new failed
TellsCheck coming old new (Err fault) = Runs IsReportOf IsAnalysisFault coming old new (Err fault)

-- The result without its answer.
abbrev pub unanswered : {A E : Type 0} → Result A E → Result (Unit {0}) E
unanswered (Ok x) = Ok tt
unanswered (Err e) = Err e

-- All events of the trace were taken, and counted.
pub record HasTaken (T : Recording) (t : Taken) : Type 0 where
  pub swept : HasSwept T t.sweeper
  pub counted : t.events ≡ length T.events

-- What was found is the analysis of the trace.
pub record IsFoundIn (T : Recording) (c : CheckedTrace) : Type 0 where
  pub is_trace : IsTrace T
  pub counted : c.events ≡ length T.events
  pub right : IsAnalysis T c.swept.lines c.swept.findings.items c.swept.verdicts.items (marked_from 0 c.swept.kept.items)

-- It is of the trace that comes.
abbrev pub IsCheckOf : Option Coming → CheckedTrace → Type 0
IsCheckOf coming c = (T : Recording) × IsFoundIn T c × ComesWhole coming T
