-- What a command ends with, by the bytes that come to it: the status, and what is out.
use Rattle.std.specs.Prelude.{◌≡◌, ℕ, ◌⊎◌, Bool, true, false, List, length, take, Option, None, Result, Ok, Err, IfOk, MatchResult}
use Rattle.std.specs.Io.KnownBytes.{Appends, Keeps}
use Rattle.pmt_text.specs.Prelude.{Op, first_version, Recording}
use Rattle.pmt_text.specs.Coming.{Coming}
use Rattle.pmt_text.specs.Spelling.{spelling}
use Rattle.pmt_trimming.specs.declared.stream_error.StreamError.{StreamError}
use Rattle.pmt_trimming.specs.declared.stream_error.StreamError.TheVariants as streams
use Rattle.pmt_trimming.specs.Streaming.{IsTextOfTrimmed, SourceRun, Streams}
use Rattle.pmt_recorder.specs.Scripts.{IsRecorded}
use Rattle.pmt_report.specs.declared.fault.RunError.{RunError}
use Rattle.pmt_report.specs.declared.fault.RunError.TheVariants.{OutOfMemory, Write}
use Rattle.pmt_report.specs.Checks.{TellsCheck}
use Rattle.pmt_report.specs.Faults.{run_fault, run_status}
use Rattle.pmt_report.specs.Runs.{IsAnalysisFault, IsFrontsAt, IsFrontsFault, Runs, coming_from_reader}
use Rattle.command_requests.specs.declared.request.Request.{Request}
use Rattle.command_requests.specs.declared.request.Request.TheVariants as asked
use Rattle.command_requests.specs.declared.request.Run.{Run}
use Rattle.command_requests.specs.declared.request.Run.TheVariants as runs
use Rattle.command_requests.specs.declared.explaining.Form.TheVariants.{Json}
use Rattle.command_inputs.specs.declared.fault.Fault.{Fault}
use Rattle.command_inputs.specs.declared.writing.Sent.{Sent}
use Rattle.command_inputs.specs.Devices.{IsToldAs, fault_status}
use Rattle.command_explain.specs.Telling.{TellsJson}

-- The status that a command ends with.
abbrev pub end_status : Result ℕ Fault → ℕ
end_status (Ok status) = status
end_status (Err fault) = fault_status fault

-- A run told this, and the status is that of its answer, or of its fault.
abbrev pub EndsAs : {A E : Type 0} → (Result A E → Type 0) → (A → ℕ) → (E → ℕ) → ℕ → Type 0
EndsAs {A} {E} Told answer fault status =
    (told : Result A E) × Told told × MatchResult told (λ x. status ≡ answer x) (λ e. IsToldAs (fault e) status)

-- ---- Of the trace that comes, with what is out before and after

-- 1 where an assertion fails or a store is never persisted, else 0.
abbrev pub failed_status : Bool → ℕ
failed_status true = 1
failed_status false = 0

abbrev pub EndsCheck : Option Coming → Option (List ℕ) → Option (List ℕ) → ℕ → Type 0
EndsCheck coming old new = EndsAs (TellsCheck coming old new) failed_status run_status

abbrev pub EndsTrim : Option Coming → Option (List ℕ) → Option (List ℕ) → ℕ → Type 0
EndsTrim coming old new = EndsAs (Runs IsTextOfTrimmed IsAnalysisFault coming old new) (λ u. 0) run_status

abbrev pub EndsFronts : ℕ → Option Coming → Option (List ℕ) → Option (List ℕ) → ℕ → Type 0
EndsFronts place coming old new = EndsAs (Runs (IsFrontsAt place) (IsFrontsFault place) coming old new) (λ u. 0) run_status

-- What a run tells in the place of the stream.
abbrev pub stream_fault : StreamError → RunError
stream_fault (streams.Source fault) = run_fault fault
stream_fault streams.OutOfMemory = OutOfMemory
stream_fault (streams.Write written) = Write written

-- A stream of what comes told this.
abbrev pub StreamsOf : Option Coming → Option (List ℕ) → Option (List ℕ) → Result (Unit {0}) StreamError → Type 0
StreamsOf coming old new told = (run : SourceRun) × (run.coming ≡ coming) × Streams run old new told

abbrev pub EndsStream : Option Coming → Option (List ℕ) → Option (List ℕ) → ℕ → Type 0
EndsStream coming old new = EndsAs (StreamsOf coming old new) (λ u. 0) (λ e. run_status (stream_fault e))

abbrev pub EndsRun : Run → Option Coming → Option (List ℕ) → Option (List ℕ) → ℕ → Type 0
EndsRun runs.Check coming old new status = EndsCheck coming old new status
EndsRun runs.Trim coming old new status = EndsTrim coming old new status
EndsRun runs.Stream coming old new status = EndsStream coming old new status
EndsRun (runs.Fronts place) coming old new status = EndsFronts place coming old new status

-- ---- Of scripts

-- The text is that of a trace which so many scripts record.
pub record IsTextOfRecorded (count : ℕ) (text : List ℕ) : Type 0 where
  pub scripts : List (List Op)
  pub trace : Recording
  pub many : length scripts ≡ count
  pub recorded : IsRecorded first_version scripts trace
  pub spelled : text ≡ spelling trace

-- Such a text is out whole; else its first bytes are, or nothing is.
abbrev pub Records : ℕ → Option (List ℕ) → Option (List ℕ) → Result ℕ Fault → Type 0
Records count old new (Ok status) = (status ≡ 0) × ((text : List ℕ) × IsTextOfRecorded count text × Appends old new text)
Records count old new (Err fault) = Keeps old new ⊎ ((text : List ℕ) × (written : ℕ) × IsTextOfRecorded count text × Appends old new (take written text))

-- ---- Of a request

-- What is out, and the status, where these are the bytes of standard input, which is read. Of other commands, and of a fault of `explain`,
-- nothing is said here.
abbrev pub Answers : Request → Option (List ℕ) → Option (List ℕ) → Option (List ℕ) → Result ℕ Fault → Type 0
Answers (asked.Run words) bytes old new ended = words.file ≡ None → EndsRun words.run (coming_from_reader bytes) old new (end_status ended)
Answers (asked.Explain words) bytes old new ended =
    words.file ≡ None → words.out ≡ None → words.form ≡ Json → IfOk ended (λ status. (sent : Sent) × TellsJson words (coming_from_reader bytes) old new (status, sent))
Answers (asked.Show text) bytes old new ended = Unit {0}
Answers (asked.Draw drawing) bytes old new ended = Unit {0}
Answers (asked.Image words) bytes old new ended = Unit {0}
Answers (asked.ImageList words) bytes old new ended = Unit {0}
Answers (asked.Slice words) bytes old new ended = Unit {0}
Answers (asked.Stat words) bytes old new ended = Unit {0}
Answers (asked.Parts words) bytes old new ended = Unit {0}
Answers (asked.Record words) bytes old new ended = Unit {0}
