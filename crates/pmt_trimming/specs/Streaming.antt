-- What is out of a trimmed trace while its events come, and what a stream tells and holds.
use Rattle.std.specs.Prelude.{◌≡◌, ◌≢◌, ℕ, ◌+◌, ◌<◌, ◌≤◌, ◌⊎◌, ◌↔◌, List, ◌++◌, length, take, Option, Some, None, IfSome, Result, Ok, Err, Bool, true, false, [], ◌∷◌, drop, map}
use Rattle.std.specs.Io.KnownBytes.{Keeps, Appends}
use Rattle.pmt_laws.specs.Prelude.{Event, Layout, Recording, IsRising, Has, cut, IsKept, IsKeep, with_events, IsTrace}
use Rattle.pmt_laws.specs.Passing.{IsOpenFlush}
use Rattle.pmt_text.specs.declared.kind.SourceError.{SourceError}
use Rattle.pmt_text.specs.declared.source.SourceState.{SourceState}
use Rattle.pmt_text.specs.Coming.{Coming, ComesWhole}
use Rattle.pmt_text.specs.Sources.{IsOfFirstLine, IsOfLaterLine, LeavesUnknown, read_faults}
use Rattle.pmt_text.specs.Spelling.{spelling, event_text}
use Rattle.pmt_trimming.specs.declared.stream_error.StreamError.{StreamError}
use Rattle.pmt_trimming.specs.declared.stream_error.StreamError.TheVariants.{Source, OutOfMemory, Write}
use Rattle.pmt_trimming.specs.Headline.{IsTrimmed}
use Rattle.pmt_trimming.specs.declared.stream.Stream.{Stream}
use Rattle.pmt_trimming.specs.Passing.{IsPassOf, AreFlags}
use Rattle.pmt_trimming.specs.LineQueues.{kept_texts, Queued}
use Rattle.pmt_trimming.specs.declared.whole_text.Whole.{Whole}
use Rattle.pmt_text.specs.declared.kind.SourceError.TheVariants as sources
use Rattle.pmt_text.specs.declared.source.SourceState.TheVariants as states

-- ---- What is out once some events have come

-- Event i stands before the oldest flush whose thread has not fenced since, if there is one.
abbrev pub IsBeforeOpen : Recording → ℕ → Type 0
IsBeforeOpen T i = (o : ℕ) → IsOpenFlush T o → i < o

-- The rising numbers of the events that are kept before the oldest such flush: of all that are kept, if there is none.
pub record AreOut (T : Recording) (numbers : List ℕ) : Type 0 where
  pub rising : IsRising 0 numbers
  pub just : (i : ℕ) → Has numbers i ↔ (IsKept T i × IsBeforeOpen T i)

-- The text that is out once the events of T have come: the header and these events.
pub record IsOut (T : Recording) (text : List ℕ) : Type 0 where
  pub numbers : List ℕ
  pub out : AreOut T numbers
  pub spelled : text ≡ spelling (cut T numbers)

-- Whatever comes after the events of T, the trimmed text of all of it begins with the text that is out.
abbrev pub OutComesFirst : Type 0
OutComesFirst =
    (T : Recording) (more : List Event) (text kept : List ℕ) → IsOut T text → IsKeep (with_events T more) kept →
    (later : List ℕ) × (spelling (cut (with_events T more) kept) ≡ text ++ later)

-- The text of the trimmed trace.
pub record IsTextOfTrimmed (T : Recording) (text : List ℕ) : Type 0 where
  pub selection : List ℕ
  pub trimmed : Recording
  pub trim : IsTrimmed T selection trimmed
  pub spelled : text ≡ spelling trimmed

-- ---- What has come

-- The events of T are the first that come.
abbrev pub ComesFirst : Option Coming → Recording → Type 0
ComesFirst coming T = IfSome coming (λ c. (c.format ≡ Some T.format) × ((later : List Event) × (c.events ≡ T.events ++ later)))

-- Between these two counts of given events just those of T were given.
abbrev pub AreGiven : ℕ → ℕ → Recording → Type 0
AreGiven before after T = after ≡ before + length T.events

-- Those of T were given, or one more, for which memory was refused.
abbrev pub AreTaken : ℕ → ℕ → Recording → Type 0
AreTaken before after T = AreGiven before after T ⊎ (after ≡ before + length T.events + 1)

-- The events of T come, and then the fault. A failed read and want of memory may come after any event.
abbrev pub ComesBefore : Option Coming → SourceError → Recording → Type 0
ComesBefore coming (sources.Text f) T = IfSome coming (λ c. c ≡ record { format = Some T.format; events = T.events; fault = Some (sources.Text f) })
ComesBefore coming sources.TooMany T = IfSome coming (λ c. c ≡ record { format = Some T.format; events = T.events; fault = Some sources.TooMany })
ComesBefore coming sources.Read T = ComesFirst coming T
ComesBefore coming sources.OutOfMemory T = ComesFirst coming T
ComesBefore coming sources.Failed T = ComesFirst coming T

-- ---- What a stream tells

-- Of a trace that has come, the text that this asks for is out.
pub record Writes (HasCome : Recording → Type 0) (IsText : Recording → List ℕ → Type 0) (old new : Option (List ℕ)) : Type 0 where
  pub trace : Recording
  pub come : HasCome trace
  pub text : List ℕ
  pub right : IsText trace text
  pub out : Appends old new text

-- The first bytes of such a text are out.
pub record WritesFirst (HasCome : Recording → Type 0) (IsText : Recording → List ℕ → Type 0) (old new : Option (List ℕ)) (written : ℕ) : Type 0 where
  pub trace : Recording
  pub come : HasCome trace
  pub text : List ℕ
  pub right : IsText trace text
  pub out : Appends old new (take written text)
  pub within : written ≤ length text

-- What a source shows of a run: what was coming, how many events it had given before and has given after, and the format known after.
pub record SourceRun : Type 0 where
  pub coming : Option Coming
  pub before : ℕ
  pub after : ℕ
  pub format : Option Layout

-- The events of T came, which are all, and then the end.
pub record CameWhole (run : SourceRun) (T : Recording) : Type 0 where
  pub come : ComesWhole run.coming T
  pub given : AreGiven run.before run.after T

-- The events of T came first, and memory was refused for the next one, or a write failed.
pub record CameFirst (run : SourceRun) (T : Recording) : Type 0 where
  pub come : ComesFirst run.coming T
  pub given : AreTaken run.before run.after T

-- The events of T came, which are all that were given, and then the fault, told once the format was. None had been told before.
pub record CameBefore (run : SourceRun) (e : SourceError) (T : Recording) : Type 0 where
  pub come : ComesBefore run.coming e T
  pub given : AreGiven run.before run.after T
  pub format : run.format ≡ Some T.format
  pub line : IsOfLaterLine (Some T.format) e
  pub first : e ≢ sources.Failed

-- The fault was told for the format, which is not known, and no event was given; or a fault had been told before.
pub record CameToNothing (run : SourceRun) (e : SourceError) : Type 0 where
  pub given : run.after ≡ run.before
  pub format : LeavesUnknown run.format e
  pub line : IsOfFirstLine e

-- Ok: the text of the trimmed trace is out. A source's fault: just what the events given before it let out, or nothing where the format
-- was not told. Want of memory: what was out before the event, or nothing where the header had no room. A write fault: the first bytes
-- of such a text.
abbrev pub Streams : SourceRun → Option (List ℕ) → Option (List ℕ) → Result (Unit {0}) StreamError → Type 0
Streams run old new (Ok u) = Writes (CameWhole run) IsTextOfTrimmed old new
Streams run old new (Err (Source e)) = (Keeps old new × CameToNothing run e) ⊎ Writes (CameBefore run e) IsOut old new
Streams run old new (Err OutOfMemory) = (Keeps old new × (run.after ≡ run.before)) ⊎ Writes (CameFirst run) IsOut old new
Streams run old new (Err (Write written)) = WritesFirst (CameFirst run) IsOut old new written ⊎ WritesFirst (CameWhole run) IsTextOfTrimmed old new written

-- Ok is answered only where the source has told its end, a fault only where it has told that fault, `Failed` only where it had told
-- a fault before, and want of memory only where it has told no fault.
abbrev pub TellsStream : SourceState → Result (Unit {0}) StreamError → SourceState → Type 0
TellsStream states.Open (Ok u) new = new ≡ states.Ended
TellsStream states.Open (Err (Source e)) new = (new ≡ states.Failed e) × (e ≢ sources.Failed)
TellsStream states.Open (Err OutOfMemory) new = (new ≡ states.Open) ⊎ (new ≡ states.Ended)
TellsStream states.Open (Err (Write written)) new = Unit {0}
TellsStream states.Ended (Ok u) new = new ≡ states.Ended
TellsStream states.Ended (Err (Source e)) new = ⊥
TellsStream states.Ended (Err OutOfMemory) new = new ≡ states.Ended
TellsStream states.Ended (Err (Write written)) new = new ≡ states.Ended
TellsStream (states.Failed told) result new = (result ≡ Err (Source sources.Failed)) × (new ≡ states.Failed told)

-- A read fault is told only where the count of failed reads rises, by one. It may have risen too where the flush after it failed.
abbrev pub CountsStream : Option ℕ → Result (Unit {0}) StreamError → Option ℕ → Type 0
CountsStream None result new = Unit {0}
CountsStream (Some n) (Ok u) new = new ≡ Some n
CountsStream (Some n) (Err (Source e)) new = new ≡ Some (n + read_faults {T = Unit {0}} (Err e))
CountsStream (Some n) (Err OutOfMemory) new = new ≡ Some n
CountsStream (Some n) (Err (Write written)) new = (new ≡ Some n) ⊎ (new ≡ Some (n + 1))

-- 1 where a write or the last flush failed
abbrev pub stream_write_faults : Result (Unit {0}) StreamError → ℕ
stream_write_faults (Ok u) = 0
stream_write_faults (Err (Source e)) = 0
stream_write_faults (Err OutOfMemory) = 0
stream_write_faults (Err (Write written)) = 1

-- ---- What a stream holds once some events have come, and the text of all that a source gives

-- The rising numbers of what is kept among the first events.
pub record AreKeptBy (T : Recording) (place : ℕ) (numbers : List ℕ) : Type 0 where
  pub rising : IsRising 0 numbers
  pub just : (i : ℕ) → Has numbers i ↔ (IsKept T i × (i ≤ place))

-- Of the events of T so many have left: this is the text of those that are kept, and the others wait.
pub record HaveLeft (T : Recording) (place : ℕ) (waiting : List Event) (text : List ℕ) : Type 0 where
  pub others : waiting ≡ drop place T.events
  pub numbers : List ℕ
  pub kept : AreKeptBy T place numbers
  pub spelled : text ≡ spelling (cut T numbers)

-- The events of T have come, and the text of those that have left is this.
pub record IsStreamOf (T : Recording) (s : Stream) (text : List ℕ) : Type 0 where
  pub pass : IsPassOf T s.pass
  pub waiting : List Event
  pub lines : s.queue.lines ≡ map event_text waiting
  pub left : HaveLeft T s.pass.settled waiting text

-- It is the stream of some events.
abbrev pub IsStream : Stream → Type 0
IsStream s = (T : Recording) × (text : List ℕ) × IsStreamOf T s text

-- And its text is the last that has left.
abbrev pub IsStreamSoFar : Stream → Type 0
IsStreamSoFar s = (T : Recording) × (text : List ℕ) × IsStreamOf T s (text ++ s.queue.text)

-- The line of an event that is kept; none of one that is not.
abbrev pub kept_line : Bool → Event → List ℕ
kept_line true e = event_text e
kept_line false e = []

-- The lines of the events whose flag is set.
abbrev pub kept_lines : List Bool → List Event → List ℕ
kept_lines [] events = []
kept_lines (b ∷ flags) [] = []
kept_lines (b ∷ flags) (e ∷ events) = kept_line b e ++ kept_lines flags events

-- The text is longer by the lines of those events after event place that are kept, one of these lines for each.
abbrev pub EndsWithKept : Recording → ℕ → List ℕ → List (List ℕ) → List ℕ → Type 0
EndsWithKept T place text lines longer = (flags : List Bool) × AreFlags T place flags × (longer ≡ text ++ kept_texts flags lines)

-- A piece is out after so many bytes, or its first bytes are.
abbrev pub WritesPiece : Option (List ℕ) → Option (List ℕ) → List ℕ → ℕ → Result ℕ StreamError → Type 0
WritesPiece old new piece before (Ok after) = Appends old new piece × (after ≡ before + length piece)
WritesPiece old new piece before (Err (Write written)) = (k : ℕ) × Appends old new (take k piece) × (k ≤ length piece) × (written ≡ before + k)
WritesPiece old new piece before (Err OutOfMemory) = ⊥
WritesPiece old new piece before (Err (Source e)) = ⊥

-- 1 where the write failed
abbrev pub piece_faults : {A : Type 0} → Result A StreamError → ℕ
piece_faults (Ok x) = 0
piece_faults (Err e) = 1

-- What was told stands, or the flush failed after so many bytes.
abbrev pub Closes : Result (Unit {0}) StreamError → ℕ → ℕ → Result (Unit {0}) StreamError → ℕ → Type 0
Closes told written before result after = ((result ≡ told) × (after ≡ before)) ⊎ ((result ≡ Err (Write written)) × (after ≡ before + 1))

-- The events of T have come, and the text that is out has so many bytes.
pub record IsSoFar (T : Recording) (s : Stream) (text : List ℕ) (written : ℕ) : Type 0 where
  pub trace : IsTrace T
  pub stream : IsStreamOf T s text
  pub out : IsOut T text
  pub many : length text ≡ written

-- It is so for some events.
abbrev pub IsUnderWay : Stream → ℕ → Type 0
IsUnderWay s written = (T : Recording) × (text : List ℕ) × IsSoFar T s text written

-- After this text the rest of the trimmed one is out, whole or its first bytes; or nothing more, where memory was refused.
abbrev pub WritesRest : Recording → List ℕ → ℕ → Option (List ℕ) → Option (List ℕ) → Result (Unit {0}) StreamError → Type 0
WritesRest T text written old new (Ok u) = (rest : List ℕ) × IsTextOfTrimmed T (text ++ rest) × Appends old new rest
WritesRest T text written old new (Err OutOfMemory) = Keeps old new
WritesRest T text written old new (Err (Write after)) =
    (Keeps old new × (after ≡ written))
    ⊎ ((rest : List ℕ) × (k : ℕ) × IsTextOfTrimmed T (text ++ rest) × Appends old new (take k rest) × (k ≤ length rest) × (after ≡ written + k))
WritesRest T text written old new (Err (Source e)) = ⊥

-- ---- The text of all that a source gives, trimmed

-- The events of T have come, and the lines of those that have not left are held.
pub record IsWholeOf (T : Recording) (w : Whole) : Type 0 where
  pub pass : IsPassOf T w.pass
  pub waiting : List Event
  pub lines : w.held.lines ≡ map event_text waiting
  pub left : HaveLeft T w.pass.settled waiting w.held.text

-- So many events of T have left, and these lines wait.
pub record IsHeldAt (T : Recording) (place : ℕ) (waiting : List Event) (q : Queued) : Type 0 where
  pub lines : q.lines ≡ map event_text waiting
  pub left : HaveLeft T place waiting q.text

abbrev pub HasLeftTo : Recording → ℕ → Queued → Type 0
HasLeftTo T place q = (waiting : List Event) × IsHeldAt T place waiting q

-- Those of some trace have.
abbrev pub IsWhole : Whole → Type 0
IsWhole w = (T : Recording) × IsWholeOf T w

-- The text is that of the trimmed trace of all that comes, and then the end comes.
pub record IsTextOfWhole (coming : Option Coming) (text : List ℕ) : Type 0 where
  pub trace : Recording
  pub come : ComesWhole coming trace
  pub right : IsTextOfTrimmed trace text
