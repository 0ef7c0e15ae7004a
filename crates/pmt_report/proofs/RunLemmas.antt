-- Runs: what was taken from the source, and the answer that was written.
use Rattle.std.proofs.Common.{◌≡◌, ℕ, Bool, true, false, List, length, Option, Result, Ok, Err, refl, sym, ap, ◌∙◌, subst}
use Rattle.std.specs.Prelude.{◌||◌, IfOk}
use Rattle.std.specs.Io.KnownBytes.{Appends}
use Rattle.pmt_laws.specs.Prelude.{list_any, Recording}
use Rattle.pmt_text.specs.Coming.{Coming, ComesWhole}
use Rattle.pmt_tables.specs.Flags.{marked_from}
use Rattle.pmt_trimming.specs.Streaming.{IsTextOfTrimmed, IsTextOfWhole}
use Rattle.pmt_text.specs.declared.kind.SourceError.{SourceError}
use Rattle.pmt_text.specs.declared.kind.SourceError.TheVariants as sources
use Rattle.pmt_report.specs.Faults.{run_fault}
use Rattle.pmt_report.specs.Reports.{report}
use Rattle.pmt_report.specs.declared.fault.RunError.{RunError}
use Rattle.pmt_report.specs.declared.fault.RunError.TheVariants.{BadWorkers, Text, TooMany, Read, PastEnd, OutOfMemory, Write}
use Rattle.pmt_report.specs.Runs.{IsAnalysisFault, IsComputed, WritesText, Runs, run_read_faults, tells_workers, write_faults, WritesReport}
use Rattle.pmt_analysis.specs.Analysing.{Analysed, IsAnalysed}
use Rattle.pmt_report.specs.declared.checked.CheckedTrace.{CheckedTrace}
use Rattle.pmt_report.specs.Checks.{IsFoundIn, TellsCheck, IsReportOf, is_failure, is_loss, report_for, unanswered}

-- an answer that was computed and then written
pub runs-written : (IsAnswer : Recording → List ℕ → Type 0) (IsFault : Option Coming → RunError → Type 0) (coming : Option Coming) (old new : Option (List ℕ)) (text : List ℕ)
    (result : Result (Unit {0}) RunError) → IsComputed IsAnswer coming text → WritesText old new text result → Runs IsAnswer IsFault coming old new result
runs-written IsAnswer IsFault coming old new text (Ok u) computed writes = (text, computed, writes)
runs-written IsAnswer IsFault coming old new text (Err (Write written)) computed writes = (text, computed, writes.0, writes.1)
runs-written IsAnswer IsFault coming old new text (Err BadWorkers) computed writes = absurd writes
runs-written IsAnswer IsFault coming old new text (Err (Text f)) computed writes = absurd writes
runs-written IsAnswer IsFault coming old new text (Err TooMany) computed writes = absurd writes
runs-written IsAnswer IsFault coming old new text (Err Read) computed writes = absurd writes
runs-written IsAnswer IsFault coming old new text (Err (PastEnd events)) computed writes = absurd writes
runs-written IsAnswer IsFault coming old new text (Err OutOfMemory) computed writes = absurd writes

-- a report that was computed and then written, or for which no memory was found
runs-reported : (coming : Option Coming) (old new : Option (List ℕ)) (text : List ℕ) (e : RunError) → IsComputed IsReportOf coming text → WritesReport old new text (Err e)
    → Runs IsReportOf IsAnalysisFault coming old new (Err e)
runs-reported coming old new text (Write written) computed writes = (text, computed, writes.0, writes.1)
runs-reported coming old new text BadWorkers computed writes = absurd writes
runs-reported coming old new text (Text f) computed writes = absurd writes
runs-reported coming old new text TooMany computed writes = absurd writes
runs-reported coming old new text Read computed writes = absurd writes
runs-reported coming old new text (PastEnd events) computed writes = absurd writes
runs-reported coming old new text OutOfMemory computed writes = (_, writes)

-- a write never tells that the number of workers is bad
pub written-untold : (old new : Option (List ℕ)) (text : List ℕ) (result : Result (Unit {0}) RunError) → WritesText old new text result → tells_workers result ≡ false
written-untold old new text (Ok u) writes = refl
written-untold old new text (Err (Write written)) writes = refl
written-untold old new text (Err BadWorkers) writes = absurd writes
written-untold old new text (Err (Text f)) writes = refl
written-untold old new text (Err TooMany) writes = refl
written-untold old new text (Err Read) writes = refl
written-untold old new text (Err (PastEnd events)) writes = refl
written-untold old new text (Err OutOfMemory) writes = refl

-- nor that a read failed
pub written-unread : (old new : Option (List ℕ)) (text : List ℕ) (result : Result (Unit {0}) RunError) → WritesText old new text result → run_read_faults result ≡ 0
written-unread old new text (Ok u) writes = refl
written-unread old new text (Err (Write written)) writes = refl
written-unread old new text (Err BadWorkers) writes = refl
written-unread old new text (Err (Text f)) writes = refl
written-unread old new text (Err TooMany) writes = refl
written-unread old new text (Err Read) writes = absurd writes
written-unread old new text (Err (PastEnd events)) writes = refl
written-unread old new text (Err OutOfMemory) writes = refl

-- nor does a fault of the source
pub fault-untold : (e : SourceError) → tells_workers {A = Unit {0}} (Err (run_fault e)) ≡ false
fault-untold (sources.Text f) = refl
fault-untold sources.TooMany = refl
fault-untold sources.Read = refl
fault-untold sources.OutOfMemory = refl
fault-untold sources.Failed = refl

pub fault-unwritten : (e : SourceError) → write_faults {A = Unit {0}} (Err (run_fault e)) ≡ 0
fault-unwritten (sources.Text f) = refl
fault-unwritten sources.TooMany = refl
fault-unwritten sources.Read = refl
fault-unwritten sources.OutOfMemory = refl
fault-unwritten sources.Failed = refl

pub never-told : {X : Type 0} (told : Bool) → told ≡ false → told ≡ true → X
never-told told denied said = cc

-- the text of the trimmed trace of all that comes was computed
pub text-computed : (told coming : Option Coming) (text bytes : List ℕ) → told ≡ coming → bytes ≡ text → IsTextOfWhole told text → IsComputed IsTextOfTrimmed coming bytes
text-computed told coming text bytes same is whole =
    record {
      trace = whole.trace;
      all = subst (λ (o : Option Coming). ComesWhole o whole.trace) same whole.come;
      answer = subst (IsTextOfTrimmed whole.trace) (sym is) whole.right;
    }

-- the analysis that was found
abbrev found_in : Recording → CheckedTrace → Analysed
found_in T c = record { trace = T; lines = c.swept.lines; findings = c.swept.findings.items; verdicts = c.swept.verdicts.items; selection = marked_from 0 c.swept.kept.items }

-- what a check tells whose text was computed
module _ (coming : Option Coming) (old new : Option (List ℕ)) (T : Recording) (c : CheckedTrace) (text : List ℕ) (failed : Bool) (found : IsFoundIn T c) (comes : ComesWhole coming T)
    (is : text ≡ report c.events c.swept.lines c.swept.findings.items c.swept.verdicts.items (length (marked_from 0 c.swept.kept.items))) (judged : failed ≡ (list_any is_failure c.swept.verdicts.items || list_any is_loss c.swept.findings.items)) where
  right : IsAnalysed (found_in T c)
  right = record { is_trace = found.is_trace; right = found.right }

  reported : text ≡ report_for (found_in T c)
  reported = is ∙ ap (λ n. report n c.swept.lines c.swept.findings.items c.swept.verdicts.items (length (marked_from 0 c.swept.kept.items))) found.counted

  computed : IsComputed IsReportOf coming text
  computed = record { trace = T; all = comes; answer = record { analysis = found_in T c; right = right; of_trace = refl; report = reported } }

  pub check-told : (done : Result (Unit {0}) RunError) (answer : Result Bool RunError) → WritesReport old new text done → unanswered answer ≡ done → IfOk answer (λ a. a ≡ failed) → TellsCheck coming old new answer
  check-told done (Ok b) writes same tells = record {
    analysis = found_in T c;
    right = right;
    all = comes;
    written = subst (Appends old new) reported (subst (WritesReport old new text) (sym same) writes);
    judged = tells ∙ judged;
  }
  check-told done (Err e) writes same tells = runs-reported coming old new text e computed (subst (WritesReport old new text) (sym same) writes)
