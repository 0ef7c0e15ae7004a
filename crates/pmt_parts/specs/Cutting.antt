-- A text of any length, and the pieces into which it is cut at the ends of lines.
use Rattle.std.specs.Prelude.{◌≡◌, ℕ, suc, ◌≤◌, ◌<◌, ◌⊎◌, ◌==◌, if◌then◌else◌, List, [], ◌∷◌, ◌++◌, length, Option, ◌+◌, false, Some, None, Result, Ok, Err}
use Rattle.std.specs.Io.KnownBytes.{Consumes, IsAtEnd}
use Rattle.pmt_text.specs.Coming.{byte_limit, Items, ends_with, fault_at, rest_fault, text_lines, format_in, judged, whole}
use Rattle.pmt_laws.specs.Prelude.{Event, Layout, Recording, event_limit}
use Rattle.pmt_text.specs.declared.kind.TextKind.{TextKind}
use Rattle.pmt_text.specs.declared.kind.TextError.{TextError}
use Rattle.pmt_text.specs.declared.kind.SourceError.TheVariants.{Text}
use Rattle.pmt_text.specs.Judging.{line_judged}
use Rattle.pmt_text.specs.OneLine.{IsOneLine}

-- How many lines end.
abbrev pub line_count : List ℕ → ℕ
line_count [] = 0
line_count (b ∷ bytes) = if b == 10 then suc (line_count bytes) else line_count bytes

-- They end with a line.
abbrev pub EndsLine : List ℕ → Type 0
EndsLine bytes = (front : List ℕ) × (bytes ≡ front ++ 10 ∷ [])

-- These are the next bytes, which end so many lines and end with the last of them; or all that are left, where fewer lines end; or more
-- bytes than a piece has.
pub record IsPiece (old : Option (List ℕ)) (most : ℕ) (piece : List ℕ) (new : Option (List ℕ)) : Type 0 where
  pub next : Consumes old new piece
  pub lines : line_count piece ≤ most
  pub full : line_count piece ≡ most → (piece ≡ []) ⊎ EndsLine piece
  pub over : line_count piece < most → IsAtEnd new ⊎ (byte_limit < length piece)

-- This front of the bytes ends so many lines, and ends with the last of them; or it is all of them, and ends fewer.
pub record IsFront (most : ℕ) (bytes front : List ℕ) (lines : ℕ) : Type 0 where
  pub count : line_count front ≡ lines
  pub few : lines ≤ most
  pub full : lines ≡ most → EndsLine front
  pub over : lines < most → front ≡ bytes

-- ---- A text of any length, and its pieces as texts of their own

-- A line is refused as of the kind, or it is an item.
abbrev pub long_item : {A : Type 0} → ℕ → Result A TextKind → Items A → Items A
long_item number (Err kind) later = ends_with (Some (fault_at number kind))
long_item number (Ok x) later = record { items = x ∷ later.items; fault = later.fault }

-- Lines by this rule, of which the first has this number: as many as there are.
unfoldable pub long_coming : {A : Type 0} → (List ℕ → Result A TextKind) → ℕ → List (List ℕ) → Items A
long_coming rule number [] = ends_with None
long_coming rule number (rest ∷ []) = ends_with (rest_fault false number rest)
long_coming rule number (line ∷ next ∷ tail) = long_item number (rule line) (long_coming rule (number + 1) (next ∷ tail))

-- What comes from the bytes after the header of a text of any length, where the first of these lines has this number.
abbrev pub body_coming : Layout → ℕ → List ℕ → Items Event
body_coming f number bytes = long_coming (line_judged f) number (text_lines bytes)

-- These items, and then what comes later.
abbrev pub items_then : {A : Type 0} → List A → Items A → Items A
items_then xs later = record { items = xs ++ later.items; fault = later.fault }

-- Where a piece of whole lines is judged a trace behind the header of the whole, the whole has just the events of that trace there, a line
-- for each, and then what comes from the rest.
abbrev pub EventsOfPieces : Type 0
EventsOfPieces =
    (head piece rest : List ℕ) (f : Layout) (B : Recording) (number : ℕ) → IsOneLine head → format_in head ≡ Some f → (piece ≡ []) ⊎ EndsLine piece → judged (head ++ 10 ∷ piece) ≡ whole B →
    (B.format ≡ f) × (body_coming f number (piece ++ rest) ≡ items_then B.events (body_coming f (number + length B.events) rest))

-- Where a piece is refused behind the header, the whole is refused for the same: the line's number is that there and the number of lines,
-- besides the header, that stand before the piece. The piece has no more lines than a trace has events, and is whole lines or the last one.
abbrev pub FaultsOfPieces : Type 0
FaultsOfPieces =
    (head piece rest : List ℕ) (f : Layout) (t : TextError) (m : ℕ) → IsOneLine head → format_in head ≡ Some f → line_count piece ≤ event_limit → EndsLine piece ⊎ (rest ≡ []) →
    (judged (head ++ 10 ∷ piece)).fault ≡ Some (Text t) → (body_coming f (2 + m) (piece ++ rest)).fault ≡ Some (Text (record { line = t.line + m; kind = t.kind }))
