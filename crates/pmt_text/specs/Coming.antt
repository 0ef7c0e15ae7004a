-- What comes from bytes: events in order, and then the end or one fault.
use Rattle.std.specs.Prelude.{◌≡◌, ℕ, ◌+◌, nat_lt, Bool, true, false, ◌==◌, if◌then◌else◌, List, [], ◌∷◌, length, take, find, Option, Some, None, IfSome, Result, Ok, Err, Vec}
use Rattle.std.specs.List.{slice_split}
use Rattle.std.specs.Str.{bytes_eq}
use Rattle.pmt_text.specs.Prelude.{Op, Event, Layout, first_version, Recording, event_limit}
use Rattle.pmt_text.specs.declared.kind.TextKind.{TextKind}
use Rattle.pmt_text.specs.declared.kind.TextKind.TheVariants.{Truncated, BadHeader, TooManyEvents}
use Rattle.pmt_text.specs.declared.kind.ReadError.{ReadError}
use Rattle.pmt_text.specs.declared.kind.ReadError.TheVariants as answers
use Rattle.pmt_text.specs.declared.kind.SourceError.{SourceError}
use Rattle.pmt_text.specs.declared.kind.SourceError.TheVariants.{Text, TooMany}
use Rattle.pmt_text.specs.Spelling.{header}
use Rattle.pmt_text.specs.Judging.{line_judged, script_line_judged}

-- What stands between the LFs; the last is what stands after the last LF.
abbrev pub text_lines : List ℕ → List (List ℕ)
text_lines bytes = slice_split (λ b. b == 10) bytes

abbrev pub fault_at : ℕ → TextKind → SourceError
fault_at line kind = Text (record { line = line; kind = kind })

-- ---- Lines in order

-- Items, and then the end or one fault.
pub record Items (A : Type 0) : Type 0 where
  pub items : List A
  pub fault : Option SourceError

abbrev pub ends_with : {A : Type 0} → Option SourceError → Items A
ends_with fault = record { items = []; fault = fault }

-- A line is refused as of the kind, or it is an item; then a million may not stand before it.
abbrev pub item_then : {A : Type 0} → ℕ → ℕ → Result A TextKind → Items A → Items A
item_then line before (Err kind) later = ends_with (Some (fault_at line kind))
item_then line before (Ok x) later =
    if nat_lt before event_limit then record { items = x ∷ later.items; fault = later.fault } else ends_with (Some (fault_at line TooManyEvents))

-- What stands after the last LF is a line without LF; more says that more bytes come than are judged.
abbrev pub rest_fault : Bool → ℕ → List ℕ → Option SourceError
rest_fault true line rest = Some TooMany
rest_fault false line [] = None
rest_fault false line (b ∷ bs) = Some (fault_at line Truncated)

-- Lines by this rule, where the first item of the text has the line number first, and before items came before these lines.
unfoldable pub lines_coming : {A : Type 0} → (List ℕ → Result A TextKind) → Bool → ℕ → ℕ → List (List ℕ) → Items A
lines_coming rule more first before [] = ends_with None
lines_coming rule more first before (rest ∷ []) = ends_with (rest_fault more (first + before) rest)
lines_coming rule more first before (line ∷ next ∷ tail) =
    item_then (first + before) before (rule line) (lines_coming rule more first (before + 1) (next ∷ tail))

-- ---- Traces

-- What comes from the text of a trace: its format, where its header is right, and its events, and then the end or one fault.
pub record Coming : Type 0 where
  pub format : Option Layout
  pub events : List Event
  pub fault : Option SourceError

abbrev pub all_formats : List Layout
all_formats = first_version ∷ record { version = 2; line_size = 32 } ∷ record { version = 2; line_size = 64 } ∷ record { version = 2; line_size = 128 } ∷ record { version = 2; line_size = 256 } ∷ []

-- The format whose header the line is.
unfoldable pub format_in : List ℕ → Option Layout
format_in line = find (λ f. bytes_eq (header f) line) all_formats

abbrev pub without_format : SourceError → Coming
without_format fault = record { format = None; events = []; fault = Some fault }

abbrev pub with_format : Layout → Items Event → Coming
with_format f later = record { format = Some f; events = later.items; fault = later.fault }

abbrev pub header_then : Option Layout → Bool → List (List ℕ) → Coming
header_then None more lines = without_format (fault_at 1 BadHeader)
header_then (Some f) more lines = with_format f (lines_coming (line_judged f) more 2 0 lines)

-- An input of no bytes is a line without LF too.
abbrev pub lines_of_trace : Bool → List (List ℕ) → Coming
lines_of_trace more [] = without_format (fault_at 1 Truncated)
lines_of_trace more (rest ∷ []) = without_format (if more then TooMany else fault_at 1 Truncated)
lines_of_trace more (line ∷ next ∷ tail) = header_then (format_in line) more (next ∷ tail)

-- What these bytes are, where more says that more bytes come, which are not judged.
unfoldable pub trace_coming : Bool → List ℕ → Coming
trace_coming more bytes = lines_of_trace more (text_lines bytes)

-- A whole text.
abbrev pub judged : List ℕ → Coming
judged bytes = trace_coming false bytes

-- Of a text that a reader gives so many bytes are judged.
abbrev pub byte_limit : ℕ
byte_limit = 67108864

-- A text of which at most so many bytes are judged.
abbrev pub judged_within : ℕ → List ℕ → Coming
judged_within bound bytes = trace_coming (nat_lt bound (length bytes)) (take bound bytes)

-- A whole trace comes, without a fault.
abbrev pub whole : Recording → Coming
whole T = record { format = Some T.format; events = T.events; fault = None }

-- All that comes, where that is known, is the trace, and then the end.
abbrev pub ComesWhole : Option Coming → Recording → Type 0
ComesWhole coming T = IfSome coming (λ c. c ≡ whole T)

-- ---- Scripts

-- A script has no header. One of no bytes has no ops.
unfoldable pub script_coming : Bool → List ℕ → Items Op
script_coming more bytes = lines_coming script_line_judged more 1 0 (text_lines bytes)

abbrev pub script_judged : List ℕ → Items Op
script_judged bytes = script_coming false bytes

-- ---- What a reader of a whole text answers, by what the text is

-- A fault is the text's. Want of memory may come with any text.
abbrev pub Refuses : ReadError → Option SourceError → Type 0
Refuses (answers.Text f) fault = fault ≡ Some (Text f)
Refuses answers.OutOfMemory fault = Unit {0}

-- An Ok is what a text without fault is.
abbrev pub GivesTrace : Result Recording ReadError → Coming → Type 0
GivesTrace (Ok T) c = c ≡ whole T
GivesTrace (Err e) c = Refuses e c.fault

abbrev pub GivesScript : {Z : Type 0} → Result (Vec Op Z) ReadError → Items Op → Type 0
GivesScript (Ok ops) s = s ≡ record { items = ops.items; fault = None }
GivesScript (Err e) s = Refuses e s.fault
