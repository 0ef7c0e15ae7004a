-- What recording scripts gives.
use Rattle.std.specs.Prelude.{◌≡◌, ℕ, suc, ◌+◌, ◌<◌, ◌⊎◌, true, false, not, List, [], ◌∷◌, length, Some, slice_get, slice_index_or, Option, None, Result, Ok, Err, OnOk, IfErr}
use Rattle.std.specs.List.{AllByRecursion, list_any}
use Rattle.pmt_model.specs.declared.event.Event.{Event}
use Rattle.pmt_model.specs.declared.event.Op.{Op}
use Rattle.pmt_model.specs.Values.{Layout}
use Rattle.pmt_model.specs.Traces.{Recording, in_format, event_limit}
use Rattle.pmt_model.specs.Selections.{part}
use Rattle.pmt_book.specs.declared.fault.BookError.{BookError}
use Rattle.pmt_book.specs.declared.fault.BookError.TheVariants.{NotInFormat, Full, OutOfMemory}
use Rattle.pmt_recorder.specs.Strips.{Strip, ops_of, entries_of, SealFails}
use Rattle.pmt_recorder.specs.declared.fault.SealKind.TheVariants.{Torn as IsTornTape}
use Rattle.pmt_recorder.specs.declared.fault.RecordError.{RecordError}
use Rattle.pmt_recorder.specs.declared.fault.RecordError.TheVariants.{BadCount, NotInFormat as NotInFormatAt, Full as FullAt, OutOfMemory as NoMemory, Torn}

-- The events are an interleaving of the scripts: part k has the ops of script k, in order.
pub record IsRecorded (layout : Layout) (scripts : List (List Op)) (T : Recording) : Type 0 where
  pub format : T.format ≡ layout
  pub whose : AllByRecursion (λ (e : Event). e.thread < length scripts) T.events
  pub parts : (t : ℕ) → t < length scripts → slice_get scripts t ≡ Some (ops_of (part t T.events))

-- Of two scripts of one op each, a trace that has the first one's alone is no recording.
abbrev pub RefusesALostOp : Type 0
RefusesALostOp =
    (layout : Layout) (first second : Op) (T : Recording) → T.events ≡ record { thread = 0; op = first } ∷ [] → ¬ IsRecorded layout ((first ∷ []) ∷ (second ∷ []) ∷ []) T

-- Some op of the script is not in the format.
abbrev pub HasOpNotInFormat : Layout → List Op → Type 0
HasOpNotInFormat f script = list_any (λ op. not (in_format f op)) script ≡ true

-- All ops of the script are in the format.
abbrev pub IsInFormat : Layout → List Op → Type 0
IsInFormat f script = list_any (λ op. not (in_format f op)) script ≡ false

-- Some op of the script is in the format.
abbrev pub HasOpInFormat : Layout → List Op → Type 0
HasOpInFormat f script = list_any (λ op. in_format f op) script ≡ true

-- What stopped the recorder of the script: an op that is not in the format, or want of room or memory for one that is.
abbrev pub Stops : Layout → List Op → BookError → Type 0
Stops f script NotInFormat = HasOpNotInFormat f script
Stops f script (Full events) = (events ≡ event_limit) × HasOpInFormat f script
Stops f script OutOfMemory = HasOpInFormat f script

-- What a recorder hands back: its tape, which has the ops of the script where it came to the end.
pub record Plays (layout : Layout) (script : List Op) (t : ℕ) (tape : Strip) (end : Result (Unit {0}) BookError) : Type 0 where
  pub thread : tape.thread ≡ t
  pub whole : OnOk end (ops_of tape.entries ≡ script)
  pub known : OnOk end (IsInFormat layout script)
  pub stopped : IfErr end (Stops layout script)

-- The fault of the lowest number, the first recorder having the number n.
abbrev pub first_fault : ℕ → List (Strip × Result (Unit {0}) BookError) → Option RecordError
first_fault n [] = None
first_fault n ((s, Ok u) ∷ rest) = first_fault (suc n) rest
first_fault n ((s, Err NotInFormat) ∷ rest) = Some (NotInFormatAt n)
first_fault n ((s, Err (Full events)) ∷ rest) = Some (FullAt n events)
first_fault n ((s, Err OutOfMemory) ∷ rest) = Some NoMemory

-- Some script has this number, and this holds of it.
abbrev pub AtScript : List (List Op) → ℕ → (List Op → Type 0) → Type 0
AtScript scripts t P = (script : List Op) × (slice_get scripts t ≡ Some script) × P script

-- Recorder t has played script t, each at its place.
abbrev pub PlaysEach : Layout → List (List Op) → List (Strip × Result (Unit {0}) BookError) → Type 0
PlaysEach f scripts played =
    (t : ℕ) (d : Strip × Result (Unit {0}) BookError) → t < length scripts →
    AtScript scripts t (λ script. Plays f script t (slice_index_or played t d).0 (slice_index_or played t d).1)

-- The ops of all scripts below number t are in the format.
abbrev pub AreInFormatBelow : Layout → List (List Op) → ℕ → Type 0
AreInFormatBelow f scripts t = (u : ℕ) → u < t → AtScript scripts u (IsInFormat f)

-- Each tape has the ops of the script of its number.
abbrev pub HaveOpsOf : List (List Op) → List Strip → Type 0
HaveOpsOf scripts strips = (t : ℕ) → t < length scripts → slice_get scripts t ≡ Some (ops_of (entries_of t strips))

-- The n tapes did not seal: the number told is the lowest whose tape is not its part of the book.
abbrev pub IsTornOf : ℕ → List Strip → RecordError → Type 0
IsTornOf n strips BadCount = ⊥
IsTornOf n strips (NotInFormatAt t) = ⊥
IsTornOf n strips (FullAt t events) = ⊥
IsTornOf n strips NoMemory = ⊥
IsTornOf n strips (Torn t) = (book : Recording) × SealFails n strips (IsTornTape t) book

-- Why no trace was given, where the book may be full if this is so: the fault of the recorder with the lowest number, so that no op of a lower
-- one's script is at fault. Where every recorder came to the end, the lowest number whose tape is not its part of the book.
abbrev pub RecordFailsIf : Type 0 → Layout → List (List Op) → RecordError → Type 0
RecordFailsIf MayFill f scripts BadCount = (length scripts ≡ 0) ⊎ (256 < length scripts)
RecordFailsIf MayFill f scripts (NotInFormatAt t) = AtScript scripts t (HasOpNotInFormat f) × AreInFormatBelow f scripts t
RecordFailsIf MayFill f scripts (FullAt t events) = (events ≡ event_limit) × AtScript scripts t (HasOpInFormat f) × AreInFormatBelow f scripts t × MayFill
RecordFailsIf MayFill f scripts NoMemory = Unit {0}
RecordFailsIf MayFill f scripts (Torn t) =
    AreInFormatBelow f scripts (length scripts) × ((strips : List Strip) × HaveOpsOf scripts strips × IsTornOf (length scripts) strips (Torn t))

-- How many ops the scripts have together.
abbrev pub op_count : List (List Op) → ℕ
op_count [] = 0
op_count (script ∷ scripts) = length script + op_count scripts

-- The book is full only if the scripts have more ops together than it has room for.
abbrev pub RecordFails : Layout → List (List Op) → RecordError → Type 0
RecordFails f scripts e = RecordFailsIf (event_limit < op_count scripts) f scripts e
