-- What one line is: what its fields spell, which check fails first and its name, and what its reader gives.
use Rattle.std.specs.Prelude.{ℕ, ◌+◌, ◌*◌, if◌then◌else◌, List, [], ◌∷◌, drop, Option, Some, None, ◌%◌, ◌^◌, Bool, true, ◌&&◌, nat_lt, nat_le, ◌==◌, length, find, Result, Ok, Err, ◌≡◌, ◌-◌, ◌≤◌, ◌⊎◌, min, take, codes}
use Rattle.std.specs.Option.{option_map}
use Rattle.std.specs.Str.{bytes_eq}
use Rattle.std.specs.Char.{digit_value}
use Rattle.std.specs.Str.Parse.{digits_value}
use Rattle.pmt_text.specs.Prelude.{Op, Store, Clwb, ClflushOpt, Clflush, Sfence, Mfence, IsPersist, IsOrderedBefore, Event, Span, Layout, first_version, OpError}
use Rattle.std.specs.List.{slice_split}
use Rattle.std.specs.Borrow.{Bor}
use Rattle.pmt_text.specs.declared.word.Word.{Word}
use Rattle.pmt_text.specs.Spelling.{numeral, address, hex_bytes, word_text}
use Rattle.pmt_text.specs.declared.kind.TextKind.{TextKind}
use Rattle.pmt_text.specs.declared.kind.TextKind.TheVariants.{BadWord, BadField, OutOfRange, CrossesWord, Truncated, BadHeader, TooManyEvents}
use Rattle.pmt_text.specs.declared.word.Word.TheVariants as words
use Rattle.pmt_model.specs.declared.fault.OpError.TheVariants as faults

-- ---- What fields spell. Each is read as if it were spelled rightly. It is, exactly where the spelling of what was read is the field.
-- Nothing is said here of ranges.

-- Goes on with what was read.
infixl 10 ◌>>=◌
abbrev pub ◌>>=◌ : {A B : Type 0} → Option A → (A → Option B) → Option B
(Some x) >>= f = f x
None >>= f = None

unfoldable pub number_in : ℕ → List ℕ → Option ℕ
number_in base field = let n = digits_value base field in if bytes_eq (numeral base n) field then Some n else None

unfoldable pub address_in : List ℕ → Option ℕ
address_in field = let a = digits_value 16 (drop 2 field) in if bytes_eq (address a) field then Some a else None

-- The bytes that pairs of digits write.
abbrev pub paired : List ℕ → List ℕ
paired [] = []
paired (x ∷ []) = []
paired (x ∷ y ∷ rest) = (16 * digit_value x + digit_value y) ∷ paired rest

-- One byte or more.
unfoldable pub bytes_in : List ℕ → Option (List ℕ)
bytes_in [] = None
bytes_in (x ∷ rest) = let bytes = paired (x ∷ rest) in if bytes_eq (hex_bytes bytes) (x ∷ rest) then Some bytes else None

unfoldable pub span_in : List ℕ → List ℕ → Option Span
span_in addr len = do
  a ← address_in addr
  n ← number_in 10 len
  Some (record { addr = a; len = n })

-- ---- The fields of an op

unfoldable pub store_in : List (List ℕ) → Option Op
store_in (addr ∷ bytes ∷ []) = do
  a ← address_in addr
  bs ← bytes_in bytes
  Some (Store (record { addr = a; bytes = bs }))
store_in _ = None

unfoldable pub flushed_in : List (List ℕ) → Option ℕ
flushed_in (addr ∷ []) = address_in addr
flushed_in _ = None

abbrev pub none_in : Op → List (List ℕ) → Option Op
none_in op [] = Some op
none_in op (field ∷ fields) = None

unfoldable pub persist_in : List (List ℕ) → Option Op
persist_in (addr ∷ len ∷ []) = option_map IsPersist (span_in addr len)
persist_in _ = None

unfoldable pub ordered_in : List (List ℕ) → Option Op
ordered_in (addr ∷ len ∷ later_addr ∷ later_len ∷ []) = do
  r ← span_in addr len
  q ← span_in later_addr later_len
  Some (IsOrderedBefore r q)
ordered_in _ = None

-- The op that the word and the fields after it, and after the thread, spell.
abbrev pub op_in : Word → List (List ℕ) → Option Op
op_in words.Store fields = store_in fields
op_in words.Clwb fields = option_map Clwb (flushed_in fields)
op_in words.ClflushOpt fields = option_map ClflushOpt (flushed_in fields)
op_in words.Clflush fields = option_map Clflush (flushed_in fields)
op_in words.Sfence fields = none_in Sfence fields
op_in words.Mfence fields = none_in Mfence fields
op_in words.IsPersist fields = persist_in fields
op_in words.IsOrderedBefore fields = ordered_in fields

-- The event that the word and the fields after it spell.
unfoldable pub event_in : Word → List (List ℕ) → Option Event
event_in word [] = None
event_in word (thread ∷ fields) = do
  t ← number_in 10 thread
  op ← op_in word fields
  Some (record { thread = t; op = op })

-- What stands between the spaces.
abbrev pub fields_of : List ℕ → List (List ℕ)
fields_of line = slice_split (λ b. b == 32) line

-- ---- Words

abbrev pub all_words : List Word
all_words = words.Store ∷ words.Clwb ∷ words.ClflushOpt ∷ words.Clflush ∷ words.Sfence ∷ words.Mfence ∷ words.IsPersist ∷ words.IsOrderedBefore ∷ []

-- clflush and mfence came with version 2.
abbrev pub is_known : Layout → Word → Bool
is_known f words.Store = true
is_known f words.Clwb = true
is_known f words.ClflushOpt = true
is_known f words.Clflush = f.version == 2
is_known f words.Sfence = true
is_known f words.Mfence = f.version == 2
is_known f words.IsPersist = true
is_known f words.IsOrderedBefore = true

-- The word that the field is.
unfoldable pub word_in : Layout → List ℕ → Option Word
word_in f field = find (λ w. bytes_eq (word_text w) field && is_known f w) all_words

-- ---- Ranges

abbrev pub is_thread : ℕ → Bool
is_thread t = nat_lt t 256

abbrev pub is_address : ℕ → Bool
is_address a = nat_lt a (2 ^ 48)

abbrev pub is_span : Span → Bool
is_span r = is_address r.addr && nat_le 1 r.len && nat_le r.len 4096 && nat_le (r.addr + r.len) (2 ^ 48)

-- Each field of the op is in its range.
abbrev pub is_in_range : Op → Bool
is_in_range (Store w) = is_address w.addr && nat_le (length w.bytes) 8
is_in_range (Clwb a) = is_address a
is_in_range (ClflushOpt a) = is_address a
is_in_range (Clflush a) = is_address a
is_in_range Sfence = true
is_in_range Mfence = true
is_in_range (IsPersist r) = is_span r
is_in_range (IsOrderedBefore r q) = is_span r && is_span q

-- A store lies inside one aligned word of 8 bytes.
abbrev pub is_in_word : Op → Bool
is_in_word (Store w) = nat_le (w.addr % 8 + length w.bytes) 8
is_in_word (Clwb a) = true
is_in_word (ClflushOpt a) = true
is_in_word (Clflush a) = true
is_in_word Sfence = true
is_in_word Mfence = true
is_in_word (IsPersist r) = true
is_in_word (IsOrderedBefore r q) = true

-- ---- Lines

-- Goes on with what is there; else the line is refused as of this kind.
abbrev pub required : {A B : Type 0} → TextKind → Option A → (A → Result B TextKind) → Result B TextKind
required kind None next = Err kind
required kind (Some x) next = next x

-- Goes on where the test holds.
abbrev pub checked : {A : Type 0} → TextKind → Bool → Result A TextKind → Result A TextKind
checked kind ok next = if ok then next else Err kind

abbrev pub event_checked : Event → Result Event TextKind
event_checked e = checked OutOfRange (is_thread e.thread && is_in_range e.op) (checked CrossesWord (is_in_word e.op) (Ok e))

abbrev pub event_judged : Layout → List (List ℕ) → Result Event TextKind
event_judged f [] = Err BadWord
event_judged f (word ∷ fields) = required BadWord (word_in f word) (λ w. required BadField (event_in w fields) event_checked)

-- A line of a trace of this format.
unfoldable pub line_judged : Layout → List ℕ → Result Event TextKind
line_judged f line = event_judged f (fields_of line)

abbrev pub op_checked : Op → Result Op TextKind
op_checked op = checked OutOfRange (is_in_range op) (checked CrossesWord (is_in_word op) (Ok op))

abbrev pub op_judged : List (List ℕ) → Result Op TextKind
op_judged [] = Err BadWord
op_judged (word ∷ fields) = required BadWord (word_in first_version word) (λ w. required BadField (op_in w fields) op_checked)

-- A line of a script: as in version 1, without the thread.
unfoldable pub script_line_judged : List ℕ → Result Op TextKind
script_line_judged line = op_judged (fields_of line)

-- ---- What the parts of the reader of a line give

-- A number as 64 bits can have it.
abbrev pub capped : ℕ → ℕ
capped n = min n (2 ^ 64 - 1)

-- The value of 0 to 9 and a to f, and 16 for any other byte.
abbrev pub digit_of : ℕ → ℕ
digit_of c = if nat_le 48 c && nat_le c 57 then c - 48 else (if nat_le 97 c && nat_le c 102 then c - 87 else 16)

abbrev pub IsBase : ℕ → Type 0
IsBase b = (b ≡ 10) ⊎ (b ≡ 16)

-- The fields that are left to read: of what stands after a space, or none.
abbrev pub fields_left : Option (Bor (List ℕ)) → List (List ℕ)
fields_left None = []
fields_left (Some rest) = fields_of rest.now

-- The number in the first field, as 64 bits can have it, and the fields after it.
abbrev pub first_number : List (List ℕ) → Option (ℕ × List (List ℕ))
first_number [] = None
first_number (field ∷ fields) = option_map (λ n. (capped n, fields)) (number_in 10 field)

abbrev pub first_address : List (List ℕ) → Option (ℕ × List (List ℕ))
first_address [] = None
first_address (field ∷ fields) = option_map (λ a. (capped a, fields)) (address_in field)

abbrev pub first_span : List (List ℕ) → Option ((ℕ × ℕ) × List (List ℕ))
first_span [] = None
first_span (addr ∷ []) = None
first_span (addr ∷ len ∷ fields) = option_map (λ r. ((capped r.addr, capped r.len), fields)) (span_in addr len)

-- What was read, and the fields that are left.
abbrev pub with_fields : {A : Type 0} → A × Option (Bor (List ℕ)) → A × List (List ℕ)
with_fields p = (p.0, fields_left p.1)

-- The number of the bytes, and the first eight of them at the front of out.
abbrev pub GivesBytes : Option (List ℕ) → Option ℕ → List ℕ → Type 0
GivesBytes None result out = result ≡ None
GivesBytes (Some bytes) result out = (result ≡ Some (length bytes)) × (length bytes ≤ 8 → take (length bytes) out ≡ bytes)

-- The op of these fields, or the first check that fails.
unfoldable pub op_of_fields : Word → List (List ℕ) → Result Op TextKind
op_of_fields word fields = required BadField (op_in word fields) op_checked

-- The address that is the one field, or the first check that fails.
unfoldable pub flushed_of_fields : List (List ℕ) → Result ℕ TextKind
flushed_of_fields fields = required BadField (flushed_in fields) (λ a. checked OutOfRange (is_address a) (Ok a))

-- No fields are left after the op.
abbrev pub fence_of_fields : Op → List (List ℕ) → Result Op TextKind
fence_of_fields op fields = required BadField (none_in op fields) (λ o. Ok o)

abbrev pub span_checked : ℕ → ℕ → Result Span TextKind
span_checked a n = checked OutOfRange (is_span (record { addr = a; len = n })) (Ok (record { addr = a; len = n }))

-- What a refusal of a constructor is in a text.
abbrev pub kind_of : OpError → TextKind
kind_of faults.BadLength = OutOfRange
kind_of faults.OutOfRange = OutOfRange
kind_of faults.CrossesWord = CrossesWord

-- The event of the thread, where its number and the op pass the checks.
abbrev pub with_thread : ℕ → Result Op TextKind → Result Event TextKind
with_thread t (Ok op) = checked OutOfRange (is_thread t) (Ok (record { thread = t; op = op }))
with_thread t (Err BadField) = Err BadField
with_thread t (Err kind) = checked OutOfRange (is_thread t) (Err kind)

-- ---- The names of the kinds of faults

abbrev pub name_of : TextKind → List ℕ
name_of Truncated = codes "truncated"
name_of BadHeader = codes "bad-header"
name_of BadWord = codes "bad-word"
name_of BadField = codes "bad-field"
name_of OutOfRange = codes "out-of-range"
name_of CrossesWord = codes "crosses-word"
name_of TooManyEvents = codes "too-many-events"
