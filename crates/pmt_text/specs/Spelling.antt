-- The one text of each trace and each script, and how its parts are written.
use Rattle.std.specs.Prelude.{ℕ, ◌+◌, ◌/◌, ◌%◌, nat_lt, ◌==◌, if◌then◌else◌, List, [], ◌∷◌, ◌++◌, map, codes, ◌≡◌, ◌≤◌, length, drop, ◌-◌, ◌*◌, ◌^◌, min}
use Rattle.std.specs.List.{flat_map, join_with_byte}
use Rattle.std.specs.Int.Digits.{digits_of}
use Rattle.pmt_text.specs.Prelude.{Op, Store, Clwb, ClflushOpt, Clflush, Sfence, Mfence, IsPersist, IsOrderedBefore, Event, Layout, Recording}
use Rattle.pmt_text.specs.declared.word.Word.{Word}
use Rattle.pmt_text.specs.declared.word.Word.TheVariants as words

-- ---- Fields

-- The character of a digit below 16: 0 to 9, and then a to f.
abbrev pub glyph : ℕ → ℕ
glyph d = if nat_lt d 10 then 48 + d else 87 + d

-- A number in a base of at most 16: its digits, the most significant first, with no leading zero; 0 is one zero.
unfoldable pub numeral : ℕ → ℕ → List ℕ
numeral base n = if n == 0 then 48 ∷ [] else map glyph (digits_of base n)

-- An address: 0x, and the number in base 16.
unfoldable pub address : ℕ → List ℕ
address a = codes "0x" ++ numeral 16 a

-- A byte as two digits of base 16.
abbrev pub hex_pair : ℕ → List ℕ
hex_pair b = glyph (b / 16 % 16) ∷ glyph (b % 16) ∷ []

unfoldable pub hex_bytes : List ℕ → List ℕ
hex_bytes bytes = flat_map hex_pair bytes

-- ---- Lines

abbrev pub word_text : Word → List ℕ
word_text words.Store = codes "store"
word_text words.Clwb = codes "clwb"
word_text words.ClflushOpt = codes "clflushopt"
word_text words.Clflush = codes "clflush"
word_text words.Sfence = codes "sfence"
word_text words.Mfence = codes "mfence"
word_text words.IsPersist = codes "isPersist"
word_text words.IsOrderedBefore = codes "isOrderedBefore"

abbrev pub word_of : Op → Word
word_of (Store w) = words.Store
word_of (Clwb a) = words.Clwb
word_of (ClflushOpt a) = words.ClflushOpt
word_of (Clflush a) = words.Clflush
word_of Sfence = words.Sfence
word_of Mfence = words.Mfence
word_of (IsPersist r) = words.IsPersist
word_of (IsOrderedBefore r q) = words.IsOrderedBefore

-- What a line has besides its word and its thread.
abbrev pub arguments_of : Op → List (List ℕ)
arguments_of (Store w) = address w.addr ∷ hex_bytes w.bytes ∷ []
arguments_of (Clwb a) = address a ∷ []
arguments_of (ClflushOpt a) = address a ∷ []
arguments_of (Clflush a) = address a ∷ []
arguments_of Sfence = []
arguments_of Mfence = []
arguments_of (IsPersist r) = address r.addr ∷ numeral 10 r.len ∷ []
arguments_of (IsOrderedBefore r q) = address r.addr ∷ numeral 10 r.len ∷ address q.addr ∷ numeral 10 q.len ∷ []

-- A line has its fields with single spaces between them, and ends with LF.
abbrev pub ended : List ℕ → List ℕ
ended line = line ++ 10 ∷ []

abbrev pub event_fields : Event → List (List ℕ)
event_fields e = word_text (word_of e.op) ∷ numeral 10 e.thread ∷ arguments_of e.op

unfoldable pub event_line : Event → List ℕ
event_line e = join_with_byte 32 (event_fields e)

-- The line of an event in a trace.
unfoldable pub event_text : Event → List ℕ
event_text e = ended (event_line e)

-- A script's lines have no thread.
abbrev pub op_fields : Op → List (List ℕ)
op_fields op = word_text (word_of op) ∷ arguments_of op

unfoldable pub op_line : Op → List ℕ
op_line op = join_with_byte 32 (op_fields op)

unfoldable pub op_text : Op → List ℕ
op_text op = ended (op_line op)

-- ---- Texts

-- The first line of a trace: its version, and in version 2 the size of a cache line.
unfoldable pub header : Layout → List ℕ
header f = if f.version == 1 then codes "pmtrace 1" else codes "pmtrace 2 " ++ numeral 10 f.line_size

-- A trace: the header, and then the lines of the events in order.
unfoldable pub spelling : Recording → List ℕ
spelling T = ended (header T.format) ++ flat_map event_text T.events

-- A script: the lines of its ops in order.
unfoldable pub script_spelling : List Op → List ℕ
script_spelling ops = flat_map op_text ops

-- The fields, each behind a space.
abbrev pub spaced : List (List ℕ) → List ℕ
spaced fields = flat_map (λ field. 32 ∷ field) fields

-- The field, of at most so many bytes, stands in front of what stood from a place on, and begins at another place.
pub record Puts (old : List ℕ) (at : ℕ) (field : List ℕ) (most : ℕ) (start : ℕ) (new : List ℕ) : Type 0 where
  pub put : drop start new ≡ field ++ drop at old
  pub before : start ≤ at
  pub few : at ≤ start + most
  pub long : length new ≡ 128

-- The address of the line's first byte, as far as it has 64 bits.
abbrev pub line_address : Layout → ℕ → ℕ
line_address format line = min (line * format.line_size) (2 ^ 64 - 1)
