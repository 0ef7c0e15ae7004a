-- What a reader of lines still has to give.
use Rattle.std.specs.Prelude.{◌≢◌, ℕ, ◌<◌, List, length, slice_index, ◌≡◌, ◌+◌, ◌-◌, ◌==◌, Bool, true, false, if◌then◌else◌, nat_lt, nat_le, [], ◌++◌, take, slice_range, Option, Some, None, IfSome, option_map, Result, Ok, Err}
use Rattle.std.specs.Io.KnownBytes.{Consumes, IsAtEnd}
use Rattle.pmt_text.specs.Prelude.{Event, Layout}
use Rattle.pmt_text.specs.declared.piece.Piece.{Piece}
use Rattle.pmt_text.specs.declared.line_reader.LineReader.{LineReader}
use Rattle.pmt_text.specs.declared.line_reader.Found.{Found}
use Rattle.pmt_text.specs.declared.line_reader.Found.TheVariants.{Line, End, More}
use Rattle.pmt_text.specs.declared.kind.SourceError.{SourceError}
use Rattle.pmt_text.specs.declared.kind.SourceError.TheVariants.{Text, TooMany, Read, OutOfMemory, Failed}
use Rattle.pmt_text.specs.OneLine.{IsOneLine}
use Rattle.pmt_text.specs.Counting.{inner_device}
use Rattle.pmt_text.specs.Judging.{line_judged}

-- the bytes of a piece that were not taken yet
abbrev pub unread : Piece → List ℕ
unread p = slice_range p.bytes p.start p.end

-- The bytes that are still to be judged; more says that more bytes come, which are not.
pub record Ahead : Type 0 where
  pub bytes : List ℕ
  pub more : Bool

-- what is held comes first, and then at most room of what a reader gives
abbrev pub known_ahead : Option (List ℕ) → List ℕ → ℕ → Option Ahead
known_ahead known held room = option_map (λ xs. record { bytes = held ++ take room xs; more = nat_lt room (length xs) }) known

-- the bytes that were taken last, where so many of them are still at hand
abbrev pub taken_last : Piece → ℕ → Option (List ℕ)
taken_last p count = if nat_le count p.start then Some (slice_range p.bytes (p.start - count) p.start) else None

module _ {R : Type 0} where
  -- the line that was taken last, with its LF, where it is still at hand
  abbrev pub last_line : LineReader R → Option (List ℕ)
  last_line r = if r.last == 0 then None else taken_last r.piece r.last

  -- what was read and not taken yet
  abbrev pub held : LineReader R → List ℕ
  held r = r.front.items ++ unread r.piece

  -- what its device still gives
  abbrev pub known_of : (R → Option (List ℕ)) → LineReader R → Option (List ℕ)
  known_of remaining r = remaining (inner_device r.input)

  abbrev pub ahead : (R → Option (List ℕ)) → LineReader R → Option Ahead
  ahead remaining r = known_ahead (known_of remaining r) (held r) r.room

  -- The line that ends at the LF in this place of the piece. Where a front waits it ends with the line.
  pub record IsLineAt (r : LineReader R) (len : ℕ) : Type 0 where
    pub within : len < length (unread r.piece)
    pub whole : 0 < len → r.front.items ≡ []
    pub one_line : IsOneLine (r.front.items ++ take len (unread r.piece))
    pub ends : slice_index (unread r.piece) len ≡ 10

  -- that line is judged this event
  pub record IsEventAt (f : Layout) (e : Event) (r : LineReader R) (len : ℕ) : Type 0 where
    pub found : IsLineAt r len
    pub judged : line_judged f (r.front.items ++ take len (unread r.piece)) ≡ Ok e

-- the first LF stands in this place
pub record LineEndsAt (bytes : List ℕ) (len : ℕ) : Type 0 where
  pub within : len < length bytes
  pub one_line : IsOneLine (take len bytes)
  pub ends : slice_index bytes len ≡ 10

-- what is known stays
abbrev pub KeepsKnown : {A : Type 0} → Option A → Option A → Type 0
KeepsKnown None new = Unit {0}
KeepsKnown (Some x) new = new ≡ Some x

-- the line without LF that is left
abbrev pub IsLast : Option Ahead → List ℕ → Bool → Type 0
IsLast a line more = IsOneLine line × IfSome a (λ x. (x.bytes ≡ line) × (x.more ≡ more))

-- a line without LF is left, and more bytes come than are judged
abbrev pub IsTooMuch : Option Ahead → Type 0
IsTooMuch a = IfSome a (λ x. IsOneLine x.bytes × (x.more ≡ true))

abbrev pub HasMore : Option (List ℕ) → Type 0
HasMore None = Unit {0}
HasMore (Some bytes) = 0 < length bytes

-- what one more read gives: a piece, the end, or that more bytes come than are judged
abbrev pub Refills : Option (List ℕ) → Option (List ℕ) → List ℕ → ℕ → ℕ → Result Bool SourceError → Type 0
Refills old new piece before left (Ok true) = (0 < length piece) × (before ≡ left + length piece) × Consumes old new piece
Refills old new piece before left (Ok false) = (piece ≡ []) × (before ≡ left) × Consumes old new [] × IsAtEnd new
Refills old new piece before left (Err TooMany) = (before ≡ 0) × HasMore old
Refills old new piece before left (Err Read) = Unit {0}
Refills old new piece before left (Err OutOfMemory) = ⊥
Refills old new piece before left (Err (Text f)) = ⊥
Refills old new piece before left (Err Failed) = ⊥

module _ {R : Type 0} (remaining : R → Option (List ℕ)) where
  -- what one look for a line finds
  abbrev pub Looks : LineReader R → Result Found SourceError → LineReader R → Type 0
  Looks old (Ok (Line len)) new = KeepsKnown (ahead remaining old) (ahead remaining new) × IsLineAt new len
  Looks old (Ok End) new = KeepsKnown (ahead remaining old) (ahead remaining new) × IsLast (ahead remaining new) new.front.items false
  Looks old (Ok More) new = KeepsKnown (ahead remaining old) (ahead remaining new) × (new.room < old.room)
  Looks old (Err TooMany) new = IsTooMuch (ahead remaining old)
  Looks old (Err Read) new = Unit {0}
  Looks old (Err OutOfMemory) new = Unit {0}
  Looks old (Err (Text f)) new = ⊥
  Looks old (Err Failed) new = ⊥

  -- what the search for a line finds
  abbrev pub Finds : LineReader R → Result Found SourceError → LineReader R → Type 0
  Finds old (Ok (Line len)) new = Looks old (Ok (Line len)) new
  Finds old (Ok End) new = Looks old (Ok End) new
  Finds old (Ok More) new = ⊥
  Finds old (Err e) new = Looks old (Err e) new
