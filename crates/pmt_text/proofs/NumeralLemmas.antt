-- Digits and numerals: a numeral has the digits of its number, no other field has, and it is read as its number.
use Rattle.std.proofs.Common.{◌≡◌, ◌≢◌, ℕ, zero, suc, ◌+◌, ◌*◌, ◌/◌, ◌%◌, ◌<◌, ◌≤◌, inl, inr, Bool, true, false, cond, ◌==◌, List, [], ◌∷◌, ◌++◌, map, length, get_or, Some, None, refl, sym, ◌∙◌, ap, subst, arith, append_assoc, append-nil, eqb-true, ne_eqb, zero-mul, mul-pos}
use Rattle.std.specs.List.{AllByRecursion}
use Rattle.std.specs.Char.{digit_value}
use Rattle.std.specs.Str.{bytes_eq}
use Rattle.std.specs.Str.Parse.{digits_value}
use Rattle.std.specs.Int.Digits.{digits_of, number_from_digits, number_from_digits_after, AllBelowBase}
use Rattle.std.proofs.lemmas.Bool.{agree_below_at, false_from_ne_true, cond-true, cond-false}
use Rattle.std.proofs.Math.Arith.{digits_div, digits_mod}
use Rattle.std.proofs.lemmas.Bool.Decides.{nat_tests}
use Rattle.std.proofs.lemmas.Slice.Eq.{bytes_eq-Decides}
use Rattle.std.proofs.lemmas.Int.Digits.{digits_value_is, digits_of_step, all_below_base_digits_of, first_digits_of, number_digits_of, number_after_ge}
use Rattle.pmt_text.specs.Spelling.{glyph, numeral}
use Rattle.pmt_text.specs.Judging.{number_in, digit_of, IsBase}

-- ---- Digits

-- the digit of a glyph
pub digit_of-glyph : (d : ℕ) → d < 16 → digit_of (glyph d) ≡ d
digit_of-glyph d h = eqb-true _ _ (agree_below_at (λ n. digit_of (glyph n) == n) (λ _. true) 16 d refl h)

-- std's digit of a glyph
pub digit_value-glyph : (d : ℕ) → d < 16 → digit_value (glyph d) ≡ d
digit_value-glyph d h = eqb-true _ _ (agree_below_at (λ n. digit_value (glyph n) == n) (λ _. true) 16 d refl h)

-- a byte with a digit is the glyph of its digit
pub glyph-digit_of : (c : ℕ) → digit_of c < 16 → glyph (digit_of c) ≡ c
glyph-digit_of c h = grind (arith, nat_tests)

-- both readings of a byte with a digit are one
pub digit_value-digit_of : (c : ℕ) → digit_of c < 16 → digit_value c ≡ digit_of c
digit_value-digit_of c h = ap digit_value (sym (glyph-digit_of c h)) ∙ digit_value-glyph (digit_of c) h

-- no space and no LF has a digit
pub no_digit-space : (c : ℕ) → digit_of c < 16 → (c == 32) ≡ false
no_digit-space c h = grind (arith, nat_tests)

pub no_digit-newline : (c : ℕ) → digit_of c < 16 → (c == 10) ≡ false
no_digit-newline c h = grind (arith, nat_tests)

-- every byte is a digit of the base
abbrev pub AreDigits : ℕ → List ℕ → Type 0
AreDigits base cs = AllByRecursion (λ c. digit_of c < base) cs

pub base-low : (b : ℕ) → IsBase b → 2 ≤ b
base-low b (inl e) = omega arith
base-low b (inr e) = omega arith

pub base-high : (b : ℕ) → IsBase b → b ≤ 16
base-high b (inl e) = omega arith
base-high b (inr e) = omega arith

-- ---- Numerals

pub numeral-zero : (base : ℕ) → numeral base 0 ≡ 48 ∷ []
unfolding numeral
numeral-zero base = refl

pub numeral-above : (base n : ℕ) → 0 < n → numeral base n ≡ map glyph (digits_of base n)
unfolding numeral
numeral-above base n h = cond-false (n == 0) (48 ∷ []) (map glyph (digits_of base n)) (ne_eqb n 0 (λ e. omega arith))

glyphs_are_digits : (base : ℕ) (ds : List ℕ) → base ≤ 16 → AllBelowBase base ds → AreDigits base (map glyph ds)
glyphs_are_digits base [] b h = tt
glyphs_are_digits base (d ∷ ds) b h =
    let P : ℕ → Type 0 = λ n. n < base in
    (subst P (sym (digit_of-glyph d (omega (arith, h.0)))) h.0, glyphs_are_digits base ds b h.1)

-- the bytes of a numeral are digits
pub AreDigits-numeral : (base n : ℕ) → IsBase base → AreDigits base (numeral base n)
AreDigits-numeral base zero b =
    let low : 0 < base = omega (arith, base-low base b) in
    subst (λ (xs : List ℕ). AreDigits base xs) (sym (numeral-zero base)) (low, tt)
AreDigits-numeral base (suc n) b =
    subst (λ (xs : List ℕ). AreDigits base xs) (sym (numeral-above base (suc n) (omega arith)))
    (glyphs_are_digits base (digits_of base (suc n)) (base-high base b) (all_below_base_digits_of base (suc n) (base-low base b)))

glyphs_back : (ds : List ℕ) (base : ℕ) → base ≤ 16 → AllBelowBase base ds → map digit_value (map glyph ds) ≡ ds
glyphs_back [] base b h = refl
glyphs_back (d ∷ ds) base b h =
    ap (λ (x : ℕ). x ∷ map digit_value (map glyph ds)) (digit_value-glyph d (omega (arith, h.0))) ∙ ap (λ (xs : List ℕ). d ∷ xs) (glyphs_back ds base b h.1)

-- a numeral is read as its number
pub digits_value-numeral : (base n : ℕ) → IsBase base → digits_value base (numeral base n) ≡ n
digits_value-numeral base zero b = ap (digits_value base) (numeral-zero base) ∙ (omega (arith, zero-mul base))
digits_value-numeral base (suc n) b =
    ap (digits_value base) (numeral-above base (suc n) (omega arith))
    ∙ digits_value_is base (map glyph (digits_of base (suc n)))
    ∙ ap (number_from_digits base) (glyphs_back (digits_of base (suc n)) base (base-high base b) (all_below_base_digits_of base (suc n) (base-low base b)))
    ∙ number_digits_of base (suc n) (base-low base b)

-- the digits of a number, after those of one above zero that it begins with
digits_after : (b n : ℕ) (ds : List ℕ) → 2 ≤ b → 0 < n → AllBelowBase b ds → digits_of b (number_from_digits_after b n ds) ≡ digits_of b n ++ ds
digits_after b n [] low pos h = sym (append-nil (digits_of b n))
digits_after b n (d ∷ ds) low pos h =
    let product : 0 < n * b = mul-pos pos (omega arith) in
    let more : 0 < n * b + d = omega arith in
    digits_after b (n * b + d) ds low more h.1
    ∙ ap (λ (xs : List ℕ). xs ++ ds) (digits_of_step b (n * b + d) low more ∙ ap (λ (q : ℕ). digits_of b q ++ (n * b + d) % b ∷ []) (digits_div n h.0) ∙ ap (λ (r : ℕ). digits_of b n ++ r ∷ []) (digits_mod n h.0))
    ∙ append_assoc (digits_of b n) (d ∷ []) ds

-- a number below the base is its own digit
pub digits_of-digit : (b d : ℕ) → 2 ≤ b → 0 < d → d < b → digits_of b d ≡ d ∷ []
digits_of-digit b d low pos h =
    let zero_times : 0 * b + d ≡ d = omega (arith, zero-mul b) in
    let quotient : d / b ≡ 0 = ap (λ (x : ℕ). x / b) (sym zero_times) ∙ digits_div 0 h in
    let remainder : d % b ≡ d = ap (λ (x : ℕ). x % b) (sym zero_times) ∙ digits_mod 0 h in
    digits_of_step b d low pos ∙ ap (λ (q : ℕ). digits_of b q ++ d % b ∷ []) quotient ∙ ap (λ (r : ℕ). r ∷ []) remainder

-- the digits of what digits write, where the first is not 0
digits_back : (b d : ℕ) (ds : List ℕ) → 2 ≤ b → 0 < d → AllBelowBase b (d ∷ ds) → digits_of b (number_from_digits b (d ∷ ds)) ≡ d ∷ ds
digits_back b d ds low pos h =
    let zero_times : 0 * b + d ≡ d = omega (arith, zero-mul b) in
    ap (λ (x : ℕ). digits_of b (number_from_digits_after b x ds)) zero_times
    ∙ digits_after b d ds low pos h.1
    ∙ ap (λ (xs : List ℕ). xs ++ ds) (digits_of-digit b d low pos h.0)

digits_below : (base : ℕ) (cs : List ℕ) → AreDigits base cs → AllBelowBase base (map digit_of cs)
digits_below base [] h = tt
digits_below base (c ∷ cs) h = (h.0, digits_below base cs h.1)

glyphs_of_digits : (base : ℕ) (cs : List ℕ) → base ≤ 16 → AreDigits base cs → map glyph (map digit_of cs) ≡ cs
glyphs_of_digits base [] b h = refl
glyphs_of_digits base (c ∷ cs) b h =
    ap (λ (x : ℕ). x ∷ map glyph (map digit_of cs)) (glyph-digit_of c (omega (arith, h.0))) ∙ ap (λ (xs : List ℕ). c ∷ xs) (glyphs_of_digits base cs b h.1)

values_are_digits : (base : ℕ) (cs : List ℕ) → base ≤ 16 → AreDigits base cs → map digit_value cs ≡ map digit_of cs
values_are_digits base [] b h = refl
values_are_digits base (c ∷ cs) b h =
    ap (λ (x : ℕ). x ∷ map digit_value cs) (digit_value-digit_of c (omega (arith, h.0))) ∙ ap (λ (xs : List ℕ). digit_of c ∷ xs) (values_are_digits base cs b h.1)

-- only 0 is the glyph of 0
digit_of-pos : (c : ℕ) → digit_of c < 16 → c ≢ 48 → 0 < digit_of c
digit_of-pos c h other = grind (arith, nat_tests)

-- digits that do not begin with 0 are the numeral of what they write
pub numeral-digits_value : (base c : ℕ) (cs : List ℕ) → IsBase base → AreDigits base (c ∷ cs) → c ≢ 48 → numeral base (digits_value base (c ∷ cs)) ≡ c ∷ cs
numeral-digits_value base c cs b h other =
    let high : digit_of c < 16 = omega (arith, h.0, base-high base b) in
    let first : 0 < digit_of c = digit_of-pos c high other in
    let ds : List ℕ = map digit_of cs in
    let value : digits_value base (c ∷ cs) ≡ number_from_digits base (digit_of c ∷ ds) =
    digits_value_is base (c ∷ cs) ∙ ap (number_from_digits base) (values_are_digits base (c ∷ cs) (base-high base b) h) in
    let above : 0 < number_from_digits base (digit_of c ∷ ds) =
    omega (arith, first, zero-mul base, number_after_ge base (0 * base + digit_of c) ds (omega (arith, base-low base b))) in
    ap (numeral base) value
    ∙ numeral-above base (number_from_digits base (digit_of c ∷ ds)) above
    ∙ ap (map glyph) (digits_back base (digit_of c) ds (base-low base b) first (digits_below base (c ∷ cs) h))
    ∙ glyphs_of_digits base (c ∷ cs) (base-high base b) h

-- one 0 is the numeral of what it writes
pub numeral-one_zero : (base : ℕ) → numeral base (digits_value base (48 ∷ [])) ≡ 48 ∷ []
numeral-one_zero base =
    let value : digits_value base (48 ∷ []) ≡ 0 = omega (arith, zero-mul base) in
    ap (numeral base) value ∙ numeral-zero base

-- the first digit of a numeral is 0 only in the numeral of 0
numeral-first : (base n : ℕ) → IsBase base → 0 < n → get_or (numeral base n) 0 0 ≢ 48
numeral-first base n b h e = go (digits_of base n) (first_digits_of base n (base-low base b) h) (all_below_base_digits_of base n (base-low base b)) (ap (λ (xs : List ℕ). get_or xs 0 0) (sym (numeral-above base n h)) ∙ e)
  where
    go : (ds : List ℕ) → 0 < get_or ds 0 0 → AllBelowBase base ds → get_or (map glyph ds) 0 0 ≡ 48 → ⊥
    go [] pos below same = omega arith
    go (d ∷ ds) pos below same =
        let back : digit_of 48 ≡ d = ap digit_of (sym same) ∙ digit_of-glyph d (omega (arith, below.0, base-high base b)) in
        omega arith

-- a field of two digits or more that begins with 0 is no numeral
pub no_numeral-leading_zero : (base n : ℕ) (c : ℕ) (cs : List ℕ) → IsBase base → numeral base n ≡ 48 ∷ c ∷ cs → ⊥
no_numeral-leading_zero base zero c cs b e =
    let one : 1 ≡ suc (suc (length cs)) = ap length (sym (numeral-zero base) ∙ e) in omega arith
no_numeral-leading_zero base (suc n) c cs b e = numeral-first base (suc n) b (omega arith) (ap (λ (xs : List ℕ). get_or xs 0 0) e)

-- no field without bytes is a numeral
pub no_numeral-empty : (base n : ℕ) → IsBase base → numeral base n ≡ [] → ⊥
no_numeral-empty base zero b e =
    let one : ◌≡◌ {A = List ℕ} (48 ∷ []) [] = sym (numeral-zero base) ∙ e in cc
no_numeral-empty base (suc n) b e =
    let first = first_digits_of base (suc n) (base-low base b) (omega arith) in
    no_glyphs (digits_of base (suc n)) first (sym (numeral-above base (suc n) (omega arith)) ∙ e)
  where
    no_glyphs : (ds : List ℕ) → 0 < get_or ds 0 0 → map glyph ds ≡ [] → ⊥
    no_glyphs [] pos e = omega arith
    no_glyphs (d ∷ ds) pos e = cc

pub AreDigits-at : (base : ℕ) (cs : List ℕ) (i : ℕ) → AreDigits base cs → i < length cs → digit_of (get_or cs i 0) < base
AreDigits-at base [] i h l = absurd (omega arith)
AreDigits-at base (c ∷ cs) zero h l = h.0
AreDigits-at base (c ∷ cs) (suc i) h l = AreDigits-at base cs i h.1 (omega arith)

-- no field with another byte is a numeral
pub no_numeral-other : (base n : ℕ) (cs : List ℕ) (i : ℕ) → IsBase base → i < length cs → base ≤ digit_of (get_or cs i 0) → numeral base n ≡ cs → ⊥
no_numeral-other base n cs i b l h e =
    let digits : AreDigits base cs = subst (λ (xs : List ℕ). AreDigits base xs) e (AreDigits-numeral base n b) in
    omega (arith, AreDigits-at base cs i digits l)

-- ---- Fields

-- a field that is the numeral of its value is read so
pub number_in-spelled : (base : ℕ) (field : List ℕ) → numeral base (digits_value base field) ≡ field → number_in base field ≡ Some (digits_value base field)
unfolding number_in
number_in-spelled base field e =
    let n = digits_value base field in
    cond-true (bytes_eq (numeral base n) field) (Some n) None ((bytes_eq-Decides (numeral base n) field).1 e)

-- a field that is no numeral is not read
pub number_in-other : (base : ℕ) (field : List ℕ) → ((n : ℕ) → numeral base n ≡ field → ⊥) → number_in base field ≡ None
unfolding number_in
number_in-other base field h =
    let n = digits_value base field in
    cond-false (bytes_eq (numeral base n) field) (Some n) None (false_from_ne_true _ (λ e. h n ((bytes_eq-Decides (numeral base n) field).0 e)))

-- a numeral is read as its number
pub number_in-numeral : (base n : ℕ) → IsBase base → number_in base (numeral base n) ≡ Some n
number_in-numeral base n b =
    let value = digits_value-numeral base n b in
    number_in-spelled base (numeral base n) (ap (numeral base) value) ∙ ap (λ (m : ℕ). Some m) value

-- what was read is spelled as the field
pub numeral-number_in : (base : ℕ) (field : List ℕ) (n : ℕ) → number_in base field ≡ Some n → numeral base n ≡ field
unfolding number_in
numeral-number_in base field n e = go (bytes_eq (numeral base m) field) refl e
  where
    m : ℕ
    m = digits_value base field

    go : (b : Bool) → bytes_eq (numeral base (digits_value base field)) field ≡ b → cond b (Some (digits_value base field)) None ≡ Some n → numeral base n ≡ field
    go true same some =
        let value : digits_value base field ≡ n = cc in
        ap (numeral base) (sym value) ∙ (bytes_eq-Decides (numeral base (digits_value base field)) field).0 same
    go false same some = cc
