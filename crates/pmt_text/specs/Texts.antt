-- Which texts are read, as what, and what the parts of their readers give.
use Rattle.std.specs.Prelude.{◌≡◌, ℕ, ◌≤◌, Bool, true, false, List, ◌∷◌, codes, length, Some, None, Err, ◌⊎◌, ◌+◌, ◌<◌, [], ◌++◌, Option, Result, Ok}
use Rattle.std.specs.List.{AllByRecursion}
use Rattle.pmt_text.specs.Prelude.{Op, Store, Clwb, ClflushOpt, Clflush, Sfence, Mfence, IsPersist, IsOrderedBefore, first_version, Layout, Recording, IsTrace, IsOp, event_limit, with_event, Event}
use Rattle.std.specs.Borrow.{Bor}
use Rattle.pmt_text.specs.declared.kind.TextKind.TheVariants.{BadWord, TooManyEvents}
use Rattle.pmt_text.specs.Spelling.{spelling, script_spelling}
use Rattle.pmt_text.specs.Judging.{fields_of, line_judged, script_line_judged}
use Rattle.pmt_text.specs.Coming.{Items, judged, judged_within, whole, script_judged, Coming, text_lines, lines_coming, with_format}
use Rattle.pmt_text.specs.declared.kind.TextKind.{TextKind}
use Rattle.pmt_text.specs.declared.kind.TextError.{TextError}
use Rattle.pmt_text.specs.declared.kind.ReadError.{ReadError}
use Rattle.pmt_text.specs.declared.kind.ReadError.TheVariants.{Text, OutOfMemory}

-- The spelling of a trace is read as the trace.
abbrev pub SpelledIsRead : Type 0
SpelledIsRead = (T : Recording) → IsTrace T → judged (spelling T) ≡ whole T

-- A text without fault is the spelling of the trace that it is read as.
abbrev pub ReadIsSpelled : Type 0
ReadIsSpelled = (text : List ℕ) → (judged text).fault ≡ None → (T : Recording) × IsTrace T × (judged text ≡ whole T) × (text ≡ spelling T)

-- No text is the text of two traces.
abbrev pub OneTraceOfText : Type 0
OneTraceOfText = (T U : Recording) → IsTrace T → IsTrace U → spelling T ≡ spelling U → T ≡ U

-- No trace is read from two texts.
abbrev pub OneTextOfTrace : Type 0
OneTextOfTrace = (first second : List ℕ) (T : Recording) → judged first ≡ whole T → judged second ≡ whole T → first ≡ second

-- The ops that version 1 has always had.
abbrev pub is_of_first_version : Op → Bool
is_of_first_version (Store w) = true
is_of_first_version (Clwb a) = true
is_of_first_version (ClflushOpt a) = true
is_of_first_version (Clflush a) = false
is_of_first_version Sfence = true
is_of_first_version Mfence = false
is_of_first_version (IsPersist r) = true
is_of_first_version (IsOrderedBefore r q) = true

-- A text of version 1 gives these ops alone, also before a fault.
abbrev pub FirstVersionStays : Type 0
FirstVersionStays = (text : List ℕ) → (judged text).format ≡ Some first_version → AllByRecursion (λ e. is_of_first_version e.op ≡ true) (judged text).events

-- In version 1 clflush and mfence are none of the words, whatever follows them.
abbrev pub NewWordsAreBad : Type 0
NewWordsAreBad =
    (line : List ℕ) (rest : List (List ℕ)) → (fields_of line ≡ codes "clflush" ∷ rest) ⊎ (fields_of line ≡ codes "mfence" ∷ rest) →
    line_judged first_version line ≡ Err BadWord

-- A script has at most a million ops, each of version 1 and within its limits.
pub record IsScript (ops : List Op) : Type 0 where
  pub few : length ops ≤ event_limit
  pub each : AllByRecursion (λ op. IsOp op × (is_of_first_version op ≡ true)) ops

abbrev pub whole_script : List Op → Items Op
whole_script ops = record { items = ops; fault = None }

-- The spelling of a script is read as the script, and a script's text without fault is its spelling.
abbrev pub ScriptsAreSpelled : Type 0
ScriptsAreSpelled =
    ((ops : List Op) → IsScript ops → script_judged (script_spelling ops) ≡ whole_script ops)
    × ((text : List ℕ) → (script_judged text).fault ≡ None → (ops : List Op) × IsScript ops × (script_judged text ≡ whole_script ops) × (text ≡ script_spelling ops))

-- A text of no more bytes than the bound is judged whole.
abbrev pub WithinBound : Type 0
WithinBound = (bound : ℕ) (text : List ℕ) → length text ≤ bound → judged_within bound text ≡ judged text

-- The longest text of a trace: a header of 14 bytes, and a million lines of 60.
abbrev pub longest_text : ℕ
longest_text = 60000014

-- The spelling of a trace has no more bytes.
abbrev pub SpelledIsShort : Type 0
SpelledIsShort = (T : Recording) → IsTrace T → length (spelling T) ≤ longest_text

-- So a reader whose bound is no less judges it whole, as the trace.
abbrev pub SpelledComesWhole : Type 0
SpelledComesWhole = (bound : ℕ) (T : Recording) → IsTrace T → longest_text ≤ bound → judged_within bound (spelling T) ≡ whole T

-- ---- What the parts of the readers of whole texts give

-- The first line and what stands after its LF, or no LF.
abbrev pub SplitsLine : Option (Bor (List ℕ) × Bor (List ℕ)) → List ℕ → Type 0
SplitsLine None text = text_lines text ≡ text ∷ []
SplitsLine (Some p) text = (text_lines text ≡ p.0.now ∷ text_lines p.1.now) × (length p.1.now < length text)

-- The first line, as it is judged, and what stands after its LF, or no LF.
abbrev pub SplitsJudged : Layout → Option (Result Event TextKind × Bor (List ℕ)) → List ℕ → Type 0
SplitsJudged f None text = text_lines text ≡ text ∷ []
SplitsJudged f (Some p) text = (line : List ℕ) × (text_lines text ≡ line ∷ text_lines p.1.now) × (line_judged f line ≡ p.0) × (length p.1.now < length text)

abbrev pub error_at : ℕ → TextKind → TextError
error_at line kind = record { line = line; kind = kind }

-- A line by its rule after before items, the first of which has the line number first: why it gives no item.
abbrev pub IsLineFault : {A : Type 0} → Result A TextKind → ℕ → ℕ → TextError → Type 0
IsLineFault (Err kind) first before f = f ≡ error_at (first + before) kind
IsLineFault (Ok x) first before f = (event_limit ≤ before) × (f ≡ error_at (first + before) TooManyEvents)

-- The event of a line that was judged is added to the trace, or the line's fault is told.
abbrev pub AddsJudged : Recording → Result Event TextKind → Result (Unit {0}) ReadError → Recording → Type 0
AddsJudged T judged (Ok u) new = (e : Event) × (judged ≡ Ok e) × (length T.events < event_limit) × (new ≡ with_event T e)
AddsJudged T judged (Err (Text f)) new = IsLineFault judged 2 (length T.events) f
AddsJudged T judged (Err OutOfMemory) new = Unit {0}

abbrev pub AddsLine : Recording → List ℕ → Result (Unit {0}) ReadError → Recording → Type 0
AddsLine T line = AddsJudged T (line_judged T.format line)

-- The line's op is added to the script, or the line's fault is told.
abbrev pub AddsOp : List Op → List ℕ → Result (Unit {0}) ReadError → List Op → Type 0
AddsOp ops line (Ok u) new = (op : Op) × (script_line_judged line ≡ Ok op) × (length ops < event_limit) × (new ≡ ops ++ op ∷ [])
AddsOp ops line (Err (Text f)) new = IsLineFault (script_line_judged line) 1 (length ops) f
AddsOp ops line (Err OutOfMemory) new = Unit {0}

-- Items before those that come.
abbrev pub after_items : {A : Type 0} → List A → Items A → Items A
after_items xs later = record { items = xs ++ later.items; fault = later.fault }

-- What comes from the lines after the events of the trace.
abbrev pub trace_then : Recording → List ℕ → Coming
trace_then T text = with_format T.format (after_items T.events (lines_coming (line_judged T.format) false 2 (length T.events) (text_lines text)))

abbrev pub script_then : List Op → List ℕ → Items Op
script_then ops text = after_items ops (lines_coming script_line_judged false 1 (length ops) (text_lines text))
