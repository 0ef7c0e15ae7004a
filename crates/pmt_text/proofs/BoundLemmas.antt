-- How long the spelling of a trace can be.
use Rattle.std.proofs.Common.{◌≡◌, ℕ, zero, suc, ◌+◌, ◌*◌, ◌^◌, ◌<◌, ◌≤◌, ◌==◌, Bool, true, false, cond, List, [], ◌∷◌, ◌++◌, length, codes, refl, sym, ◌∙◌, subst, arith}
use Rattle.std.specs.List.{AllByRecursion, flat_map, join_with_byte}
use Rattle.std.specs.Int.Digits.{digits_of}
use Rattle.std.proofs.lemmas.List.{length-map, length-append}
use Rattle.std.proofs.lemmas.Int.Digits.{length-digits_of-le}
use Rattle.std.proofs.lemmas.Bool.Decides.{nat_tests}
use Rattle.pmt_text.specs.Prelude.{Op, Store, Clwb, ClflushOpt, Clflush, IsPersist, IsOrderedBefore, Event, Layout, Span, IsRange, IsFormat, IsOp, IsEvent, IsEventIn}
use Rattle.pmt_text.specs.Spelling.{glyph, numeral, address, hex_bytes, word_text, word_of, arguments_of, ended, event_fields, event_line, event_text, header, spelling}
use Rattle.pmt_text.specs.Texts.{SpelledIsShort, SpelledComesWhole}
use Rattle.pmt_text.proofs.NumeralLemmas.{numeral-zero, numeral-above}
use Rattle.pmt_text.proofs.WholeLemmas.{spelled_is_read, within_bound}

-- ---- Fields

length-numeral : (b k n : ℕ) → 2 ≤ b → 1 ≤ k → n < b ^ k → length (numeral b n) ≤ k
length-numeral b k zero low some h = subst (λ (xs : List ℕ). length xs ≤ k) (sym (numeral-zero b)) some
length-numeral b k (suc n) low some h =
    subst (λ (xs : List ℕ). length xs ≤ k) (sym (numeral-above b (suc n) (omega arith)))
    (omega (arith, length-map (digits_of b (suc n)) glyph, length-digits_of-le b k (suc n) low h))

length-address : (a : ℕ) → a < 2 ^ 48 → length (address a) ≤ 14
unfolding address
length-address a h = omega (arith, length-numeral 16 12 a (omega arith) (omega arith) h)

length-hex_bytes : (bytes : List ℕ) → length (hex_bytes bytes) ≡ 2 * length bytes
unfolding hex_bytes
length-hex_bytes [] = refl
length-hex_bytes (b ∷ bytes) = omega (arith, length-hex_bytes bytes)

length-thread : (t : ℕ) → t < 256 → length (numeral 10 t) ≤ 3
length-thread t h = length-numeral 10 3 t (omega arith) (omega arith) (omega arith)

length-len : (r : Span) → IsRange r → length (numeral 10 r.len) ≤ 4
length-len r h = length-numeral 10 4 r.len (omega arith) (omega arith) (omega (arith, h.few))

length-start : (r : Span) → IsRange r → length (address r.addr) ≤ 14
length-start r h = length-address r.addr (omega (arith, h.some, h.within))

-- ---- Lines

-- The bytes of the fields, with one more after each.
abbrev spaced : List (List ℕ) → ℕ
spaced [] = 0
spaced (field ∷ fields) = length field + 1 + spaced fields

length-join : (field : List ℕ) (fields : List (List ℕ)) → length (join_with_byte 32 (field ∷ fields)) + 1 ≡ spaced (field ∷ fields)
length-join field [] = omega arith
length-join field (next ∷ fields) = omega (arith, length-append field (32 ∷ join_with_byte 32 (next ∷ fields)), length-join next fields)

spaced-op : (op : Op) → IsOp op → length (word_text (word_of op)) + 1 + spaced (arguments_of op) ≤ 56
spaced-op (Store w) h = omega (arith, length-address w.addr h.address, length-hex_bytes w.bytes, h.inside)
spaced-op (Clwb a) h = omega (arith, length-address a h)
spaced-op (ClflushOpt a) h = omega (arith, length-address a h)
spaced-op (Clflush a) h = omega (arith, length-address a h)
spaced-op (IsPersist r) h = omega (arith, length-start r h, length-len r h)
spaced-op (IsOrderedBefore r q) h = omega (arith, length-start r h.0, length-len r h.0, length-start q h.1, length-len q h.1)
spaced-op b h = omega arith

length-event_text : (e : Event) → IsEvent e → length (event_text e) ≤ 60
unfolding event_text event_line
length-event_text e h =
    let line : List ℕ = join_with_byte 32 (event_fields e) in
    omega (arith, length-append line (10 ∷ []), length-join (word_text (word_of e.op)) (numeral 10 e.thread ∷ arguments_of e.op), length-thread e.thread h.thread, spaced-op e.op h.op)

length-events : (f : Layout) (es : List Event) → AllByRecursion (IsEventIn f) es → length (flat_map event_text es) ≤ 60 * length es
length-events f [] h = omega arith
length-events f (e ∷ es) h = omega (arith, length-append (event_text e) (flat_map event_text es), length-event_text e h.0.event, length-events f es h.1)

-- ---- Texts

-- A line size has at most three digits.
length-header : (f : Layout) → f.line_size < 1000 → length (header f) ≤ 13
unfolding header
length-header f h = go (f.version == 1)
  where
    go : (first : Bool) → length (cond first (codes "pmtrace 1") (codes "pmtrace 2 " ++ numeral 10 f.line_size)) ≤ 13
    go true = omega arith
    go false = omega (arith, length-append (codes "pmtrace 2 ") (numeral 10 f.line_size), length-numeral 10 3 f.line_size (omega arith) (omega arith) h)

small_lines : (f : Layout) → IsFormat f → f.line_size < 1000
small_lines f h = grind (arith, nat_tests)

pub spelled_is_short : SpelledIsShort
unfolding spelling
spelled_is_short T is =
    omega (arith, length-append (ended (header T.format)) (flat_map event_text T.events), length-append (header T.format) (10 ∷ []), length-header T.format (small_lines T.format is.format), length-events T.format T.events is.each, is.few)

pub spelled_comes_whole : SpelledComesWhole
spelled_comes_whole bound T is enough = within_bound bound (spelling T) (omega (arith, spelled_is_short T is)) ∙ spelled_is_read T is
