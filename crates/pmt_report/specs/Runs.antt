-- What a run did, by its answer, and how its text is written chunk by chunk.
use Rattle.std.specs.Prelude.{◌≡◌, ℕ, ◌+◌, ◌<◌, ◌≤◌, List, length, take, Option, Some, None, IfSome, Result, Ok, Err, Bool, true, false, ◌++◌, vec_capacity}
use Rattle.pmt_laws.specs.Prelude.{option_map, Recording}
use Rattle.std.specs.Io.KnownBytes.{Keeps, Appends}
use Rattle.pmt_text.specs.Coming.{Coming, ComesWhole, byte_limit, judged_within}
use Rattle.pmt_report.specs.declared.fault.RunError.{RunError}
use Rattle.pmt_report.specs.declared.fault.RunError.TheVariants.{BadWorkers, Text, TooMany, Read, PastEnd, OutOfMemory, Write}
use Rattle.pmt_report.specs.Reports.{fronts_text}
use Rattle.pmt_report.specs.declared.chunks.Chunks.{Chunks}
use Rattle.pmt_text.specs.declared.kind.SourceError.TheVariants as sources

-- ---- What is written

-- The text is out whole, or its first bytes, and then a write or the last flush failed.
abbrev pub WritesText : Option (List ℕ) → Option (List ℕ) → List ℕ → Result (Unit {0}) RunError → Type 0
WritesText old new text (Ok u) = Appends old new text
WritesText old new text (Err (Write written)) = Appends old new (take written text) × (written ≤ length text)
WritesText old new text (Err BadWorkers) = ⊥
WritesText old new text (Err (Text f)) = ⊥
WritesText old new text (Err TooMany) = ⊥
WritesText old new text (Err Read) = ⊥
WritesText old new text (Err (PastEnd events)) = ⊥
WritesText old new text (Err OutOfMemory) = ⊥

-- How many writes and flushes failed.
abbrev pub write_faults : {A : Type 0} → Result A RunError → ℕ
write_faults (Ok x) = 0
write_faults (Err (Write written)) = 1
write_faults (Err BadWorkers) = 0
write_faults (Err (Text f)) = 0
write_faults (Err TooMany) = 0
write_faults (Err Read) = 0
write_faults (Err (PastEnd events)) = 0
write_faults (Err OutOfMemory) = 0

-- How many reads failed.
abbrev pub run_read_faults : {A : Type 0} → Result A RunError → ℕ
run_read_faults (Ok x) = 0
run_read_faults (Err Read) = 1
run_read_faults (Err BadWorkers) = 0
run_read_faults (Err (Text f)) = 0
run_read_faults (Err TooMany) = 0
run_read_faults (Err (PastEnd events)) = 0
run_read_faults (Err OutOfMemory) = 0
run_read_faults (Err (Write written)) = 0

-- The answer is that the number of workers is bad.
abbrev pub tells_workers : {A : Type 0} → Result A RunError → Bool
tells_workers (Ok x) = false
tells_workers (Err BadWorkers) = true
tells_workers (Err (Text f)) = false
tells_workers (Err TooMany) = false
tells_workers (Err Read) = false
tells_workers (Err (PastEnd events)) = false
tells_workers (Err OutOfMemory) = false
tells_workers (Err (Write written)) = false

-- ---- What is read

-- What comes from the bytes, where they are known.
abbrev pub coming_from_reader : Option (List ℕ) → Option Coming
coming_from_reader bytes = option_map (judged_within byte_limit) bytes

-- ---- What a run computes from what comes, before it writes

-- The text is an answer on the trace that comes.
pub record IsComputed (IsAnswer : Recording → List ℕ → Type 0) (coming : Option Coming) (text : List ℕ) : Type 0 where
  pub trace : Recording
  pub all : ComesWhole coming trace
  pub answer : IsAnswer trace text

-- The place lies past the events of the trace that comes.
pub record IsPast (place : ℕ) (coming : Option Coming) (events : ℕ) : Type 0 where
  pub trace : Recording
  pub all : ComesWhole coming trace
  pub many : length trace.events ≡ events
  pub past : events < place

-- The fault comes, or a read failed or memory was refused.
abbrev pub IsComingFault : Option Coming → RunError → Type 0
IsComingFault coming BadWorkers = ⊥
IsComingFault coming (Text f) = IfSome coming (λ c. c.fault ≡ Some (sources.Text f))
IsComingFault coming TooMany = IfSome coming (λ c. c.fault ≡ Some sources.TooMany)
IsComingFault coming Read = Unit {0}
IsComingFault coming (PastEnd events) = ⊥
IsComingFault coming OutOfMemory = Unit {0}
IsComingFault coming (Write written) = ⊥

abbrev pub IsAnalysisFault : Option Coming → RunError → Type 0
IsAnalysisFault coming BadWorkers = Unit {0}
IsAnalysisFault coming (Text f) = IsComingFault coming (Text f)
IsAnalysisFault coming TooMany = IsComingFault coming TooMany
IsAnalysisFault coming Read = Unit {0}
IsAnalysisFault coming (PastEnd events) = ⊥
IsAnalysisFault coming OutOfMemory = Unit {0}
IsAnalysisFault coming (Write written) = ⊥

abbrev pub IsFrontsFault : ℕ → Option Coming → RunError → Type 0
IsFrontsFault place coming BadWorkers = ⊥
IsFrontsFault place coming (Text f) = IsComingFault coming (Text f)
IsFrontsFault place coming TooMany = IsComingFault coming TooMany
IsFrontsFault place coming Read = Unit {0}
IsFrontsFault place coming (PastEnd events) = IsPast place coming events
IsFrontsFault place coming OutOfMemory = Unit {0}
IsFrontsFault place coming (Write written) = ⊥

-- The text has the fronts of the trace at the place, which is no later than the end.
pub record IsFrontsAt (place : ℕ) (T : Recording) (text : List ℕ) : Type 0 where
  pub within : place ≤ length T.events
  pub fronts : text ≡ fronts_text T place

-- A read fault is told exactly where the count of failed reads rises, which it does by one; None: there is no count.
abbrev pub CountsRuns : {A : Type 0} → Option ℕ → Result A RunError → Option ℕ → Type 0
CountsRuns None result new = Unit {0}
CountsRuns (Some n) result new = new ≡ Some (n + run_read_faults result)

-- ---- What a run tells

-- An answer on the trace that came is out, whole or its first bytes; or nothing is, and the fault is such a one.
abbrev pub Runs : (Recording → List ℕ → Type 0) → (Option Coming → RunError → Type 0) → Option Coming → Option (List ℕ) → Option (List ℕ) → Result (Unit {0}) RunError → Type 0
Runs IsAnswer IsFault coming old new (Ok u) = (text : List ℕ) × IsComputed IsAnswer coming text × Appends old new text
Runs IsAnswer IsFault coming old new (Err (Write written)) =
    (text : List ℕ) × IsComputed IsAnswer coming text × Appends old new (take written text) × (written ≤ length text)
Runs IsAnswer IsFault coming old new (Err BadWorkers) = IsFault coming BadWorkers × Keeps old new
Runs IsAnswer IsFault coming old new (Err (Text f)) = IsFault coming (Text f) × Keeps old new
Runs IsAnswer IsFault coming old new (Err TooMany) = IsFault coming TooMany × Keeps old new
Runs IsAnswer IsFault coming old new (Err Read) = IsFault coming Read × Keeps old new
Runs IsAnswer IsFault coming old new (Err (PastEnd events)) = IsFault coming (PastEnd events) × Keeps old new
Runs IsAnswer IsFault coming old new (Err OutOfMemory) = IsFault coming OutOfMemory × Keeps old new

-- ---- A text that is put piece by piece, and written chunk by chunk

-- The first bytes of the text are out, and the others wait.
pub record IsPut (before now : Option (List ℕ)) (text : List ℕ) (chunks : Chunks) : Type 0 where
  pub out : List ℕ
  pub parts : text ≡ out ++ chunks.waiting.items
  pub written : Appends before now out
  pub count : chunks.written ≡ length out
  pub room : 65536 ≤ vec_capacity chunks.waiting

-- The text is put so far, or its first bytes are out, and then a write failed.
abbrev pub PutsOn : Option (List ℕ) → Option (List ℕ) → List ℕ → Result (Unit {0}) RunError → Chunks → Type 0
PutsOn before now text (Ok u) chunks = IsPut before now text chunks
PutsOn before now text (Err e) chunks = WritesText before now text (Err e)

-- The text is out whole, or its first bytes, and then a write or the last flush failed; or memory was refused, and nothing is out.
abbrev pub WritesReport : Option (List ℕ) → Option (List ℕ) → List ℕ → Result (Unit {0}) RunError → Type 0
WritesReport old new text (Ok u) = WritesText old new text (Ok u)
WritesReport old new text (Err OutOfMemory) = Keeps old new
WritesReport old new text (Err (Write written)) = WritesText old new text (Err (Write written))
WritesReport old new text (Err BadWorkers) = ⊥
WritesReport old new text (Err (Text f)) = ⊥
WritesReport old new text (Err TooMany) = ⊥
WritesReport old new text (Err Read) = ⊥
WritesReport old new text (Err (PastEnd events)) = ⊥
