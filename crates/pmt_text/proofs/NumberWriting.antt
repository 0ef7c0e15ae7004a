-- The writer of a number: one digit on, and the room that it needs.
use Rattle.std.proofs.Common.{◌≡◌, ℕ, zero, suc, ◌+◌, ◌-◌, ◌*◌, ◌/◌, ◌%◌, ◌^◌, ◌<◌, ◌≤◌, inl, inr, List, [], ◌∷◌, ◌++◌, map, length, drop, set, refl, sym, ◌∙◌, ap, ap₂, arith, append_assoc, pow-suc, div-lt_iff_lt-mul, le-div_iff_mul-le, mul-le-mul_left, one-mul}
use Rattle.std.specs.Int.Digits.{digits_of}
use Rattle.std.proofs.lemmas.List.{map-append, drop-set}
use Rattle.std.proofs.lemmas.Int.Digits.{digits_of_step}
use Rattle.pmt_text.specs.Spelling.{glyph, numeral, hex_pair}
use Rattle.pmt_text.specs.Judging.{IsBase}
use Rattle.pmt_text.proofs.NumeralLemmas.{base-low, numeral-above, numeral-zero, digits_of-digit}

-- a number of two digits or more ends with its last one
pub numeral-step : (base n : ℕ) → IsBase base → base ≤ n → numeral base n ≡ numeral base (n / base) ++ glyph (n % base) ∷ []
numeral-step base n b l =
    let low = base-low base b in
    let above : 0 < n = omega (arith, low) in
    let one : 1 * base ≤ n = omega (arith, one-mul base) in
    let quotient : 0 < n / base = (le-div_iff_mul-le {k = base} {x = 1} {y = n} (omega arith)).1 one in
    numeral-above base n above
    ∙ ap (map glyph) (digits_of_step base n low above)
    ∙ map-append glyph (digits_of base (n / base)) (n % base ∷ [])
    ∙ ap (λ (xs : List ℕ). xs ++ glyph (n % base) ∷ []) (sym (numeral-above base (n / base) quotient))

-- a number of one digit
pub numeral-digit : (base n : ℕ) → IsBase base → n < base → numeral base n ≡ glyph n ∷ []
numeral-digit base zero b l = numeral-zero base
numeral-digit base (suc n) b l = numeral-above base (suc n) (omega arith) ∙ ap (map glyph) (digits_of-digit base (suc n) (base-low base b) (omega arith) l)

-- a number of three digits of base 16 or more ends with two of them
pub numeral-pair : (n : ℕ) → 256 ≤ n → numeral 16 n ≡ numeral 16 (n / 256) ++ hex_pair (n % 256)
numeral-pair n l =
    let twice : n / 16 / 16 ≡ n / 256 = omega arith in
    let high : n / 16 % 16 ≡ n % 256 / 16 % 16 = omega arith in
    let low : n % 16 ≡ n % 256 % 16 = omega arith in
    numeral-step 16 n (inr refl) (omega arith)
    ∙ ap (λ (xs : List ℕ). xs ++ glyph (n % 16) ∷ []) (numeral-step 16 (n / 16) (inr refl) (omega arith))
    ∙ append_assoc (numeral 16 (n / 16 / 16)) (glyph (n / 16 % 16) ∷ []) (glyph (n % 16) ∷ [])
    ∙ ap (λ (q : ℕ). numeral 16 q ++ glyph (n / 16 % 16) ∷ glyph (n % 16) ∷ []) twice
    ∙ ap₂ (λ (x y : ℕ). numeral 16 (n / 256) ++ glyph x ∷ glyph y ∷ []) high low

-- a number of two digits of base 16
pub numeral-two : (n : ℕ) → 16 ≤ n → n < 256 → numeral 16 n ≡ hex_pair n
numeral-two n l h =
    let high : n / 16 ≡ n / 16 % 16 = omega arith in
    numeral-step 16 n (inr refl) l
    ∙ ap (λ (xs : List ℕ). xs ++ glyph (n % 16) ∷ []) (numeral-digit 16 (n / 16) (inr refl) (omega arith))
    ∙ ap (λ (d : ℕ). glyph d ∷ glyph (n % 16) ∷ []) high

-- of three
pub numeral-three : (n : ℕ) → 256 ≤ n → n < 4096 → numeral 16 n ≡ glyph (n / 256) ∷ hex_pair (n % 256)
numeral-three n l h = numeral-pair n l ∙ ap (λ (xs : List ℕ). xs ++ hex_pair (n % 256)) (numeral-digit 16 (n / 256) (inr refl) (omega arith))

-- of four
pub numeral-four : (n : ℕ) → 4096 ≤ n → n < 65536 → numeral 16 n ≡ hex_pair (n / 256) ++ hex_pair (n % 256)
numeral-four n l h = numeral-pair n (omega arith) ∙ ap (λ (xs : List ℕ). xs ++ hex_pair (n % 256)) (numeral-two (n / 256) (omega arith) (omega arith))

-- a number of five digits of base 16 or more ends with four of them
pub numeral-fours : (n : ℕ) → 65536 ≤ n → numeral 16 n ≡ numeral 16 (n / 65536) ++ (hex_pair (n % 65536 / 256) ++ hex_pair (n % 65536 % 256))
numeral-fours n l =
    let twice : n / 256 / 256 ≡ n / 65536 = omega arith in
    let high : n / 256 % 256 ≡ n % 65536 / 256 = omega arith in
    let low : n % 256 ≡ n % 65536 % 256 = omega arith in
    numeral-pair n (omega arith)
    ∙ ap (λ (xs : List ℕ). xs ++ hex_pair (n % 256)) (numeral-pair (n / 256) (omega arith))
    ∙ append_assoc (numeral 16 (n / 256 / 256)) (hex_pair (n / 256 % 256)) (hex_pair (n % 256))
    ∙ ap (λ (q : ℕ). numeral 16 q ++ (hex_pair (n / 256 % 256) ++ hex_pair (n % 256))) twice
    ∙ ap₂ (λ (x y : ℕ). numeral 16 (n / 65536) ++ (hex_pair x ++ hex_pair y)) high low

-- a number of two digits or more has room for two
pub room-two : (n at : ℕ) → 10 ≤ n → n < 10 ^ at → 2 ≤ at
room-two n (suc (suc at)) l h = omega arith
room-two n a l h = absurd (omega arith)

pub room-three : (n at : ℕ) → 100 ≤ n → n < 10 ^ at → 3 ≤ at
room-three n (suc (suc (suc at))) l h = omega arith
room-three n a l h = absurd (omega arith)

pub base-ten : (b : ℕ) → IsBase b → 10 ≤ b
base-ten b (inl e) = omega arith
base-ten b (inr e) = omega arith

-- its first digits have one place less
pub room-quotient : (base n at : ℕ) → IsBase base → n < 10 ^ suc at → n / base < 10 ^ at
room-quotient base n at b h =
    let ten = base-ten base b in
    let grows : 10 ^ at * 10 ≤ 10 ^ at * base = mul-le-mul_left (10 ^ at) ten in
    let below : n < 10 ^ at * base = omega (arith, pow-suc 10 at) in
    (div-lt_iff_lt-mul {k = base} {x = n} {y = 10 ^ at} (omega arith)).1 below

drop-front : (digits : List ℕ) (at d : ℕ) → 1 ≤ at → at ≤ length digits → drop (at - 1) (set digits (at - 1) d) ≡ d ∷ drop at digits
drop-front digits at d pos l =
    let back : at - 1 + 1 ≡ at = omega arith in
    drop-set digits (at - 1) d (omega arith) ∙ ap (λ (n : ℕ). d ∷ drop n digits) back

-- one digit is written in front of those that are
pub write-step : (base n rest : ℕ) (digits : List ℕ) (at g : ℕ) → IsBase base → base ≤ rest → 1 ≤ at → at ≤ length digits → g ≡ glyph (rest % base) →
    numeral base n ≡ numeral base rest ++ drop at digits → numeral base n ≡ numeral base (rest / base) ++ drop (at - 1) (set digits (at - 1) g)
write-step base n rest digits at g b l pos fits is e =
    e ∙ ap (λ (xs : List ℕ). xs ++ drop at digits) (numeral-step base rest b l)
    ∙ append_assoc (numeral base (rest / base)) (glyph (rest % base) ∷ []) (drop at digits)
    ∙ ap (λ (d : ℕ). numeral base (rest / base) ++ d ∷ drop at digits) (sym is)
    ∙ ap (λ (xs : List ℕ). numeral base (rest / base) ++ xs) (sym (drop-front digits at g pos fits))

-- the first digit is written in front of the others
pub write-last : (base n rest : ℕ) (digits : List ℕ) (at g : ℕ) → IsBase base → rest < base → 1 ≤ at → at ≤ length digits → g ≡ glyph rest →
    numeral base n ≡ numeral base rest ++ drop at digits → numeral base n ≡ drop (at - 1) (set digits (at - 1) g)
write-last base n rest digits at g b l pos fits is e =
    e ∙ ap (λ (xs : List ℕ). xs ++ drop at digits) (numeral-digit base rest b l)
    ∙ ap (λ (d : ℕ). d ∷ drop at digits) (sym is)
    ∙ sym (drop-front digits at g pos fits)
