-- The spelling of an event is judged the event.
use Rattle.std.proofs.Common.{◌≡◌, ℕ, ◌+◌, ◌%◌, ◌^◌, ◌<◌, ◌≤◌, true, false, not, ◌&&◌, ◌==◌, nat_le, List, [], ◌∷◌, ◌++◌, length, codes, Option, Some, Ok, refl, sym, ◌∙◌, ap, inl, inr, arith, lt-ltb, le-leb}
use Rattle.std.specs.List.{AllByRecursion, join_with_byte, list_all}
use Rattle.std.proofs.lemmas.Bool.{and_parts, and_from, cond-true, not-true}
use Rattle.pmt_text.specs.Prelude.{Op, Store, Clwb, ClflushOpt, Clflush, Sfence, Mfence, IsPersist, IsOrderedBefore, Event, Layout, Span, IsRange, AreBytes, first_version, IsOp, IsEvent, IsEventIn, in_format}
use Rattle.pmt_text.specs.declared.kind.TextKind.TheVariants.{BadWord, BadField}
use Rattle.pmt_text.specs.declared.word.Word.{Word}
use Rattle.pmt_text.specs.declared.word.Word.TheVariants as words
use Rattle.pmt_text.specs.Spelling.{numeral, address, hex_bytes, word_text, word_of, arguments_of, event_fields, event_line, op_fields, op_line}
use Rattle.pmt_text.specs.Judging.{◌>>=◌, bytes_in, span_in, store_in, flushed_in, persist_in, ordered_in, op_in, event_in, fields_of, word_in, is_known, required, is_thread, is_address, is_span, is_in_range, is_in_word, op_checked, event_checked, event_judged, op_judged, line_judged, script_line_judged, digit_of}
use Rattle.pmt_text.proofs.NumeralLemmas.{AreDigits, AreDigits-numeral, number_in-numeral, no_digit-space, no_digit-newline}
use Rattle.pmt_text.proofs.FieldLemmas.{AreDigits-hex_bytes, address_in-address, bytes_in-hex_bytes}
use Rattle.pmt_text.proofs.LineLemmas.{IsFree, parts-join}
use Rattle.pmt_text.proofs.WordLemmas.{word_in-word_text}
use Rattle.pmt_text.specs.JudgedEvents.{in_format-is_known}

-- ---- No field has a space or an LF

pub free_from : (c : ℕ) (xs : List ℕ) → list_all (λ b. not (b == c)) xs ≡ true → IsFree c xs
free_from c [] h = tt
free_from c (x ∷ xs) h =
    let parts = and_parts (not (x == c)) (list_all (λ b. not (b == c)) xs) h in
    (not-true (x == c) parts.0, free_from c xs parts.1)

word_free-space : (w : Word) → IsFree 32 (word_text w)
word_free-space words.Store = free_from 32 (codes "store") refl
word_free-space words.Clwb = free_from 32 (codes "clwb") refl
word_free-space words.ClflushOpt = free_from 32 (codes "clflushopt") refl
word_free-space words.Clflush = free_from 32 (codes "clflush") refl
word_free-space words.Sfence = free_from 32 (codes "sfence") refl
word_free-space words.Mfence = free_from 32 (codes "mfence") refl
word_free-space words.IsPersist = free_from 32 (codes "isPersist") refl
word_free-space words.IsOrderedBefore = free_from 32 (codes "isOrderedBefore") refl

word_free-newline : (w : Word) → IsFree 10 (word_text w)
word_free-newline words.Store = free_from 10 (codes "store") refl
word_free-newline words.Clwb = free_from 10 (codes "clwb") refl
word_free-newline words.ClflushOpt = free_from 10 (codes "clflushopt") refl
word_free-newline words.Clflush = free_from 10 (codes "clflush") refl
word_free-newline words.Sfence = free_from 10 (codes "sfence") refl
word_free-newline words.Mfence = free_from 10 (codes "mfence") refl
word_free-newline words.IsPersist = free_from 10 (codes "isPersist") refl
word_free-newline words.IsOrderedBefore = free_from 10 (codes "isOrderedBefore") refl

-- a byte that stands in no field: it is no digit and stands in no word, nor in 0x
record StandsApart (c : ℕ) : Type 0 where
  digit : (x : ℕ) → digit_of x < 16 → (x == c) ≡ false
  word : (w : Word) → IsFree c (word_text w)
  zero_digit : (48 == c) ≡ false
  prefix : (120 == c) ≡ false

space_apart : StandsApart 32
space_apart = record { digit = no_digit-space; word = word_free-space; zero_digit = refl; prefix = refl }

newline_apart : StandsApart 10
newline_apart = record { digit = no_digit-newline; word = word_free-newline; zero_digit = refl; prefix = refl }

digits_free : (c base : ℕ) (cs : List ℕ) → StandsApart c → base ≤ 16 → AreDigits base cs → IsFree c cs
digits_free c base [] s b h = tt
digits_free c base (x ∷ xs) s b h = (s.digit x (omega (arith, h.0)), digits_free c base xs s b h.1)

count_free : (c n : ℕ) → StandsApart c → IsFree c (numeral 10 n)
count_free c n s = digits_free c 10 (numeral 10 n) s (omega arith) (AreDigits-numeral 10 n (inl refl))

address_free : (c a : ℕ) → StandsApart c → IsFree c (address a)
unfolding address
address_free c a s = (s.zero_digit, (s.prefix, digits_free c 16 (numeral 16 a) s (omega arith) (AreDigits-numeral 16 a (inr refl))))

arguments_free : (c : ℕ) (op : Op) → StandsApart c → AllByRecursion (IsFree c) (arguments_of op)
arguments_free c (Store w) s = (address_free c w.addr s, (digits_free c 16 (hex_bytes w.bytes) s (omega arith) (AreDigits-hex_bytes w.bytes), tt))
arguments_free c (Clwb a) s = (address_free c a s, tt)
arguments_free c (ClflushOpt a) s = (address_free c a s, tt)
arguments_free c (Clflush a) s = (address_free c a s, tt)
arguments_free c (IsPersist r) s = (address_free c r.addr s, (count_free c r.len s, tt))
arguments_free c (IsOrderedBefore r q) s = (address_free c r.addr s, (count_free c r.len s, (address_free c q.addr s, (count_free c q.len s, tt))))
arguments_free c b s = tt

free-append : (c : ℕ) (xs ys : List ℕ) → IsFree c xs → IsFree c ys → IsFree c (xs ++ ys)
free-append c [] ys h g = g
free-append c (x ∷ xs) ys h g = (h.0, free-append c xs ys h.1 g)

free-join : (c s : ℕ) (field : List ℕ) (fields : List (List ℕ)) → (s == c) ≡ false → AllByRecursion (IsFree c) (field ∷ fields) → IsFree c (join_with_byte s (field ∷ fields))
free-join c s field [] other h = h.0
free-join c s field (next ∷ fields) other h = free-append c field (s ∷ join_with_byte s (next ∷ fields)) h.0 (other, free-join c s next fields other h.1)

-- a line has no LF
pub event_line_free : (e : Event) → IsFree 10 (event_line e)
unfolding event_line
event_line_free e =
    free-join 10 32 (word_text (word_of e.op)) (numeral 10 e.thread ∷ arguments_of e.op) refl
    (word_free-newline (word_of e.op), (count_free 10 e.thread newline_apart, arguments_free 10 e.op newline_apart))

pub op_line_free : (op : Op) → IsFree 10 (op_line op)
unfolding op_line
op_line_free op = free-join 10 32 (word_text (word_of op)) (arguments_of op) refl (word_free-newline (word_of op), arguments_free 10 op newline_apart)

fields_of-event_line : (e : Event) → fields_of (event_line e) ≡ event_fields e
unfolding event_line
fields_of-event_line e =
    parts-join 32 (word_text (word_of e.op)) (numeral 10 e.thread ∷ arguments_of e.op)
    (word_free-space (word_of e.op), (count_free 32 e.thread space_apart, arguments_free 32 e.op space_apart))

fields_of-op_line : (op : Op) → fields_of (op_line op) ≡ op_fields op
unfolding op_line
fields_of-op_line op = parts-join 32 (word_text (word_of op)) (arguments_of op) (word_free-space (word_of op), arguments_free 32 op space_apart)

-- ---- Each field is read as itself

bytes_in-store : (bytes : List ℕ) → 1 ≤ length bytes → AreBytes bytes → bytes_in (hex_bytes bytes) ≡ Some bytes
bytes_in-store [] some h = absurd (omega arith)
bytes_in-store (b ∷ bytes) some h = bytes_in-hex_bytes b bytes h

span_in-range : (r : Span) → span_in (address r.addr) (numeral 10 r.len) ≡ Some r
unfolding span_in
span_in-range r = rw (address_in-address r.addr, number_in-numeral 10 r.len (inl refl)) refl

op_in-arguments : (op : Op) → IsOp op → op_in (word_of op) (arguments_of op) ≡ Some op
unfolding store_in flushed_in persist_in ordered_in
op_in-arguments (Store w) h = rw (address_in-address w.addr, bytes_in-store w.bytes h.some h.each) refl
op_in-arguments (Clwb a) h = rw (address_in-address a) refl
op_in-arguments (ClflushOpt a) h = rw (address_in-address a) refl
op_in-arguments (Clflush a) h = rw (address_in-address a) refl
op_in-arguments (IsPersist r) h = rw (span_in-range r) refl
op_in-arguments (IsOrderedBefore r q) h = rw (span_in-range r, span_in-range q) refl
op_in-arguments b h = refl

-- ---- The checks pass

is_span_range : (r : Span) → IsRange r → is_span r ≡ true
is_span_range r h =
    let some = h.some in
    let few = h.few in
    let within = h.within in
    and_from (is_address r.addr && nat_le 1 r.len && nat_le r.len 4096) (nat_le (r.addr + r.len) (2 ^ 48))
    (and_from (is_address r.addr && nat_le 1 r.len) (nat_le r.len 4096)
    (and_from (is_address r.addr) (nat_le 1 r.len) (lt-ltb r.addr (2 ^ 48) (omega arith)) (le-leb 1 r.len some)) (le-leb r.len 4096 few))
    (le-leb (r.addr + r.len) (2 ^ 48) within)

in_range_op : (op : Op) → IsOp op → is_in_range op ≡ true
in_range_op (Store w) h =
    let inside = h.inside in
    and_from (is_address w.addr) (nat_le (length w.bytes) 8) (lt-ltb w.addr (2 ^ 48) h.address) (le-leb (length w.bytes) 8 (omega arith))
in_range_op (Clwb a) h = lt-ltb a (2 ^ 48) h
in_range_op (ClflushOpt a) h = lt-ltb a (2 ^ 48) h
in_range_op (Clflush a) h = lt-ltb a (2 ^ 48) h
in_range_op (IsPersist r) h = is_span_range r h
in_range_op (IsOrderedBefore r q) h = and_from (is_span r) (is_span q) (is_span_range r h.0) (is_span_range q h.1)
in_range_op b h = refl

in_word_op : (op : Op) → IsOp op → is_in_word op ≡ true
in_word_op (Store w) h = le-leb (w.addr % 8 + length w.bytes) 8 h.inside
in_word_op b h = refl

-- ---- Lines

known_word : (f : Layout) (op : Op) → in_format f op ≡ true → word_in f (word_text (word_of op)) ≡ Some (word_of op)
known_word f op k = word_in-word_text f (word_of op) ∙ cond-true (is_known f (word_of op)) _ _ (sym (in_format-is_known f op) ∙ k)

event_in-fields : (e : Event) → IsOp e.op → event_in (word_of e.op) (numeral 10 e.thread ∷ arguments_of e.op) ≡ Some e
unfolding event_in
event_in-fields e h =
    ap (λ (o : Option ℕ). o >>= λ t. op_in (word_of e.op) (arguments_of e.op) >>= λ op. Some (record { thread = t; op = op })) (number_in-numeral 10 e.thread (inl refl))
    ∙ ap (λ (o : Option Op). o >>= λ op. Some (record { thread = e.thread; op = op })) (op_in-arguments e.op h)

event_checks : (e : Event) → IsEvent e → event_checked e ≡ Ok e
event_checks e h =
    cond-true (is_thread e.thread && is_in_range e.op) _ _ (and_from (is_thread e.thread) (is_in_range e.op) (lt-ltb e.thread 256 h.thread) (in_range_op e.op h.op))
    ∙ cond-true (is_in_word e.op) _ _ (in_word_op e.op h.op)

-- the line of an event is judged the event
pub line_judged-event_line : (f : Layout) (e : Event) → IsEventIn f e → line_judged f (event_line e) ≡ Ok e
unfolding line_judged
line_judged-event_line f e h =
    ap (event_judged f) (fields_of-event_line e)
    ∙ ap (λ (o : Option Word). required BadWord o (λ w. required BadField (event_in w (numeral 10 e.thread ∷ arguments_of e.op)) event_checked)) (known_word f e.op h.known)
    ∙ ap (λ (o : Option Event). required BadField o event_checked) (event_in-fields e h.event.op)
    ∙ event_checks e h.event

pub script_line_judged-op_line : (op : Op) → IsOp op → in_format first_version op ≡ true → script_line_judged (op_line op) ≡ Ok op
unfolding script_line_judged
script_line_judged-op_line op h k =
    ap op_judged (fields_of-op_line op)
    ∙ ap (λ (o : Option Word). required BadWord o (λ w. required BadField (op_in w (arguments_of op)) op_checked)) (known_word first_version op k)
    ∙ ap (λ (o : Option Op). required BadField o op_checked) (op_in-arguments op h)
    ∙ cond-true (is_in_range op) _ _ (in_range_op op h)
    ∙ cond-true (is_in_word op) _ _ (in_word_op op h)
