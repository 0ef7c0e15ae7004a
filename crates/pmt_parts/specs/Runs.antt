-- All parts of a text of any length, how far a run over it has come, and why it may stop.
use Rattle.std.specs.Prelude.{◌≡◌, ℕ, ◌-◌, ◌≤◌, ◌⊎◌, List, [], ◌∷◌, length, min, drop, Option, IfSome, ◌+◌, ◌++◌, Some}
use Rattle.pmt_laws.specs.Prelude.{Event, Recording, matching_place, IsTrace, flat_map}
use Rattle.pmt_text.specs.Spelling.{spelling, event_text, ended, header}
use Rattle.pmt_asked.specs.declared.ignoring.ByteRange.{ByteRange}
use Rattle.pmt_part_laws.specs.Parts.{IsWellFormed}
use Rattle.std.specs.Io.KnownBytes.{Consumes}
use Rattle.pmt_text.specs.declared.kind.SourceError.TheVariants.{Text}
use Rattle.pmt_text.specs.Coming.{judged}
use Rattle.pmt_parts.specs.declared.part.Part.{Part}
use Rattle.pmt_parts.specs.Making.{IsPartOf, ComesNext}
use Rattle.pmt_parts.specs.declared.taker.PartError.{PartError}
use Rattle.pmt_parts.specs.declared.taker.Refusal.{Refusal}
use Rattle.pmt_parts.specs.declared.taker.Stop.{Stop}
use Rattle.pmt_parts.specs.Cutting.{IsPiece}
use Rattle.pmt_parts.specs.declared.taker.PartError.TheVariants as errors
use Rattle.pmt_parts.specs.declared.taker.Stop.TheVariants as stops

-- The events that the part answers for: those of its own after the event `before` of the whole.
abbrev pub answered : Part → List Event
answered p = drop (matching_place p.numbers.items p.before) p.trace.events

-- The part has at most so many events, or answers for none.
abbrev pub KeepsTo : ℕ → Part → Type 0
KeepsTo most p = (length p.trace.events ≤ most) ⊎ (p.end ≡ p.before)

-- Parts of T in order, after one that begins at `place` and ends at `end`. Each answers for what comes after the end of the one before it,
-- and begins so many events before that, or where the one before it begins if that is later. The last one ends at `last`.
abbrev pub FollowOn : Recording → List ByteRange → ℕ → ℕ → ℕ → ℕ → List Part → Type 0
FollowOn T ranges overlap place end last [] = end ≡ last
FollowOn T ranges overlap place end last (p ∷ parts) =
    IsPartOf T ranges p × (p.before ≡ end) × (p.place ≡ end - min overlap (end - place)) × FollowOn T ranges overlap p.place p.end last parts

-- These are all parts of T: they follow on from its start to its end, and the events that they answer for, part by part, are the events of T.
pub record AreAllParts (T : Recording) (ranges : List ByteRange) (overlap : ℕ) (parts : List Part) : Type 0 where
  pub follow : FollowOn T ranges overlap 0 0 (length T.events) parts
  pub answers : flat_map answered parts ≡ T.events

-- The bytes, where they are known, are the text of a trace of any length, and these are all its parts.
abbrev pub IsCutText : List ByteRange → ℕ → Option (List ℕ) → List Part → Type 0
IsCutText ranges overlap bytes parts = (T : Recording) × IsWellFormed T × IfSome bytes (λ text. text ≡ spelling T) × AreAllParts T ranges overlap parts

-- ---- A run that has come so far

-- T begins with the events of S.
abbrev pub BeginsWith : Recording → Recording → Type 0
BeginsWith S T = (T.format ≡ S.format) × (later : List Event) × (T.events ≡ S.events ++ later)

-- Some events were read, whatever comes later. These parts and then this one follow on to the last of them.
pub record IsCutSoFar (ranges : List ByteRange) (overlap : ℕ) (old new : Option (List ℕ)) (parts : List Part) (part : Part) : Type 0 where
  pub read : Recording
  pub text : Consumes old new (spelling read)
  pub well : IsWellFormed read
  pub ends : part.end ≡ length read.events
  pub format : part.trace.format ≡ read.format
  pub follow : (T : Recording) → BeginsWith read T → FollowOn T ranges overlap 0 0 part.end (parts ++ part ∷ [])

-- The part after it has the events of the block too, for which it answers.
pub record Extends (before : Part) (block : Recording) (after : Part) : Type 0 where
  pub format : before.trace.format ≡ block.format
  pub ends : after.end ≡ before.end + length block.events
  pub same_format : after.trace.format ≡ block.format
  pub same_place : after.place ≡ before.place
  pub same_before : after.before ≡ before.before
  pub grown : after.trace.events ≡ before.trace.events ++ block.events
  pub part : (T : Recording) (ranges : List ByteRange) → IsPartOf T ranges before → ComesNext T before.end block → IsPartOf T ranges after

-- It has the next events of the text, as many as it has room for; none where it has none.
pub record ReadsOn (most : ℕ) (old new : Option (List ℕ)) (before after : Part) : Type 0 where
  pub block : Recording
  pub text : Consumes old new (flat_map event_text block.events)
  pub is_trace : IsTrace block
  pub extends : Extends before block after
  pub few : (length after.trace.events ≤ most) ⊎ (after.end ≡ before.end)

-- ---- Why a run over a text ends before the text does

-- If a piece is refused, it is in this way.
abbrev pub RefusedAs : (Refusal → Type 0) → PartError → Type 0
RefusedAs Is (errors.Refused r) = Is r
RefusedAs Is (errors.Read e) = Unit {0}
RefusedAs Is errors.TooMany = Unit {0}
RefusedAs Is errors.OutOfMemory = Unit {0}

-- If the run ends for its text, it is for such an error.
abbrev pub StopsAs : {F : Type 0} → (PartError → Type 0) → Stop F → Type 0
StopsAs Is (stops.Taker fault) = Unit {0}
StopsAs Is (stops.Text e) = Is e

-- This text is refused, before which so many events stand, for its first fault.
abbrev pub IsRefusedText : List ℕ → ℕ → Refusal → Type 0
IsRefusedText text before r = (r.text.items ≡ text) × (r.before ≡ before) × ((judged text).fault ≡ Some (Text r.fault))

-- The piece that comes next is refused behind these bytes.
pub record IsRefusedBehind (head : List ℕ) (bytes : Option (List ℕ)) (before : ℕ) (r : Refusal) : Type 0 where
  pub piece : List ℕ
  pub most : ℕ
  pub left : Option (List ℕ)
  pub next : IsPiece bytes most piece left
  pub refused : IsRefusedText (head ++ piece) before r

-- So is the piece after a part, behind the header.
abbrev pub IsRefusedPast : Part → Option (List ℕ) → Refusal → Type 0
IsRefusedPast part bytes r = IsRefusedBehind (ended (header part.trace.format)) bytes part.end r

-- So is the piece after these parts of the text; the first piece has the header in it.
abbrev pub IsRefusedAfter : List ByteRange → ℕ → Option (List ℕ) → List Part → Refusal → Type 0
IsRefusedAfter ranges overlap bytes parts r =
    ((parts ≡ []) × IsRefusedBehind [] bytes 0 r)
    ⊎ ((before : List Part) × (last : Part) × (left : Option (List ℕ)) × (parts ≡ before ++ last ∷ []) × IsCutSoFar ranges overlap bytes left before last × IsRefusedPast last left r)
