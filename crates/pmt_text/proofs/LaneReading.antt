-- What is read by lanes, as it is spelled.
use Rattle.std.proofs.Common.{◌≡◌, ℕ, ◌+◌, ◌*◌, ◌<◌, ◌≤◌, min, inl, inr, Bool, true, List, [], ◌∷◌, ◌++◌, length, get_or, take, drop, refl, sym, ◌∙◌, ap, ap₂, arith, zero-mul, length-take-le}
use Rattle.std.proofs.Math.Seq.{drop-cons}
use Rattle.std.proofs.lemmas.Bool.{cases_eq}
use Rattle.std.proofs.lemmas.Bool.Decides.{nat_tests}
use Rattle.std.proofs.lemmas.List.{take-append-drop}
use Rattle.std.proofs.lemmas.List.Sums.{prefix_len-le-length, prefix_len_passes}
use Rattle.std.specs.Char.{is_ascii_digit}
use Rattle.std.specs.List.{prefix_len}
use Rattle.std.specs.Str.Parse.{digits_value}
use Rattle.pmt_lanes.specs.Digits.{is_hex_digit, paired, IsNumberFirst}
use Rattle.pmt_text.specs.Spelling.{glyph, hex_bytes, numeral}
use Rattle.pmt_text.specs.Judging.{digit_of, IsBase}
use Rattle.pmt_text.proofs.FieldLemmas.{hex_bytes-paired}
use Rattle.pmt_text.proofs.NumeralLemmas.{glyph-digit_of}
use Rattle.pmt_text.proofs.NumberWriting.{numeral-digit}
use Rattle.pmt_text.proofs.SpelledReading.{AreDigits-take, digits-first, zero-first}

pub decimal-digit : (c : ℕ) → is_ascii_digit c ≡ true → digit_of c < 10
decimal-digit c h = grind (arith, nat_tests)

pub hex-digit : (c : ℕ) → is_hex_digit c ≡ true → digit_of c < 16
hex-digit c h = grind (arith, nat_tests)

-- one digit is a number
pub digit-first : (cs : List ℕ) (d : ℕ) → 0 < length cs → d ≡ digit_of (get_or cs 0 0) → d < 10 → cs ≡ numeral 10 d ++ drop 1 cs
digit-first cs d l is h =
    let low : digit_of (get_or cs 0 0) < 16 = omega (arith, is, h) in
    drop-cons cs 0 0 l
    ∙ ap (λ (x : ℕ). x ∷ drop 1 cs) (sym (ap glyph is ∙ glyph-digit_of (get_or cs 0 0) low))
    ∙ ap (λ (xs : List ℕ). xs ++ drop 1 cs) (sym (numeral-digit 10 d (inl refl) h))

one-zero : (base : ℕ) (text : List ℕ) → 0 < length text → get_or text 0 0 ≡ 48 → digits_value base (take 1 text) ≡ 0
one-zero base [] some e = absurd (omega arith)
one-zero base (c ∷ cs) some e = rw e (omega (arith, zero-mul base))

-- the digits that stand first are a numeral
pub number-first : (base most : ℕ) (is_digit : ℕ → Bool) (text : List ℕ) (number count : ℕ) → IsBase base → ((c : ℕ) → is_digit c ≡ true → digit_of c < base) → IsNumberFirst is_digit most text
    → count ≡ prefix_len is_digit text → number ≡ digits_value base (take count text) → text ≡ numeral base number ++ drop count text
number-first base most is_digit text number count b each first run value =
    let within : count ≤ length text = omega (arith, run, prefix_len-le-length is_digit text) in
    let some : 0 < count = omega (arith, run, first.0) in
    elim (cases_eq (get_or text 0 0) 48) [
      | inl zero ↦
          let one : count ≡ 1 = run ∙ first.2 zero in
          let none : number ≡ 0 = value ∙ ap (λ (k : ℕ). digits_value base (take k text)) one ∙ one-zero base text (omega (arith, some, within)) zero in
          zero-first base text (omega (arith, some, within)) zero ∙ ap₂ (λ (n k : ℕ). numeral base n ++ drop k text) (sym none) (sym one)
      | inr other ↦
          digits-first base count text b some within other (λ k below. each (get_or text k 0) (prefix_len_passes is_digit text k 0 (omega (arith, below, run))))
          ∙ ap (λ (n : ℕ). numeral base n ++ drop count text) (sym value)
    ]

-- pairs of digits that stand first are bytes
pub pairs-first : (text out : List ℕ) (n : ℕ) → 2 * n ≡ min 16 (prefix_len is_hex_digit text) → take n out ≡ paired (take (2 * n) text) → text ≡ hex_bytes (take n out) ++ drop (2 * n) text
pairs-first text out n run is =
    let within : 2 * n ≤ length text = omega (arith, run, prefix_len-le-length is_hex_digit text) in
    let even : length (take (2 * n) text) ≡ n + n = length-take-le (2 * n) text within ∙ omega arith in
    let digits = AreDigits-take 16 (2 * n) text within (λ k below. hex-digit (get_or text k 0) (prefix_len_passes is_hex_digit text k 0 (omega (arith, below, run)))) in
    sym (take-append-drop (2 * n) text) ∙ ap (λ (xs : List ℕ). xs ++ drop (2 * n) text) (sym (ap hex_bytes is ∙ hex_bytes-paired (take (2 * n) text) n even digits))
