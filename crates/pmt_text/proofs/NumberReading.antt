-- What the reader of a number answers, at each of its returns.
use Rattle.std.proofs.Common.{◌≡◌, ℕ, suc, ◌+◌, ◌*◌, ◌^◌, ◌-◌, ◌<◌, ◌≤◌, ◌⊎◌, inl, inr, min, List, [], ◌∷◌, length, get_or, take, Option, Some, None, option_map, sym, ◌∙◌, ap, subst, arith, le-mul_of_pos_right, mul-le-mul_right}
use Rattle.std.specs.Str.Parse.{digits_value}
use Rattle.std.proofs.lemmas.Bool.{cases_eq, cases_lt}
use Rattle.std.proofs.lemmas.Int.Digits.{digits_value_more}
use Rattle.pmt_text.specs.Judging.{number_in, capped, digit_of, IsBase}
use Rattle.pmt_text.proofs.NumeralLemmas.{AreDigits, base-low, base-high, digit_value-digit_of, number_in-other, number_in-spelled, no_numeral-empty, no_numeral-leading_zero, no_numeral-other, numeral-digits_value, numeral-one_zero}

-- what a reader answers of a field
abbrev pub number_read : ℕ → List ℕ → Option ℕ
number_read base field = option_map capped (number_in base field)

none_read : (base : ℕ) (field : List ℕ) → number_in base field ≡ None → None ≡ number_read base field
none_read base field e = sym (ap (option_map capped) e)

-- a field without bytes is not read
pub reads-empty : (base : ℕ) (field : List ℕ) → IsBase base → length field ≡ 0 → None ≡ number_read base field
reads-empty base [] b e = none_read base [] (number_in-other base [] (λ n. no_numeral-empty base n b))
reads-empty base (c ∷ cs) b e = absurd (omega arith)

-- a field of more bytes that begins with 0 is not read
pub reads-leading_zero : (base : ℕ) (field : List ℕ) → IsBase base → get_or field 0 0 ≡ 48 → 1 < length field → None ≡ number_read base field
reads-leading_zero base (c ∷ d ∷ cs) b e l =
    none_read base (c ∷ d ∷ cs) (number_in-other base (c ∷ d ∷ cs) (λ n same. no_numeral-leading_zero base n d cs b (same ∙ ap (λ (x : ℕ). x ∷ d ∷ cs) e)))
reads-leading_zero base a b e l = absurd (omega arith)

-- a field with a byte that is no digit is not read
pub reads-other : (base : ℕ) (field : List ℕ) (i : ℕ) → IsBase base → i < length field → base ≤ digit_of (get_or field i 0) → None ≡ number_read base field
reads-other base field i b l h = none_read base field (number_in-other base field (λ n. no_numeral-other base n field i b l h))

AreDigits-from : (base : ℕ) (cs : List ℕ) → ((k : ℕ) → k < length cs → digit_of (get_or cs k 0) < base) → AreDigits base cs
AreDigits-from base [] h = tt
AreDigits-from base (c ∷ cs) h = (h 0 (omega arith), AreDigits-from base cs (λ k l. h (suc k) (omega arith)))

some_read : (base : ℕ) (field : List ℕ) → number_in base field ≡ Some (digits_value base field) → Some (capped (digits_value base field)) ≡ number_read base field
some_read base field e = sym (ap (option_map capped) e)

-- digits that do not begin with 0, and one 0, are read as what they write
pub reads-digits : (base : ℕ) (field : List ℕ) → IsBase base → 0 < length field → (get_or field 0 0 ≡ 48 → length field ≤ 1) →
    ((k : ℕ) → k < length field → digit_of (get_or field k 0) < base) → Some (capped (digits_value base field)) ≡ number_read base field
reads-digits base [] b pos first each = absurd (omega arith)
reads-digits base (c ∷ cs) b pos first each = go (cases_eq c 48)
  where
    go : ((c ≡ 48) ⊎ (c ≡ 48 → ⊥)) → Some (capped (digits_value base (c ∷ cs))) ≡ number_read base (c ∷ cs)
    go (inl e) = one_zero cs (first e)
      where
        one_zero : (rest : List ℕ) → length (c ∷ rest) ≤ 1 → Some (capped (digits_value base (c ∷ rest))) ≡ number_read base (c ∷ rest)
        one_zero [] l = subst (λ (x : ℕ). Some (capped (digits_value base (x ∷ []))) ≡ number_read base (x ∷ [])) (sym e) (some_read base (48 ∷ []) (number_in-spelled base (48 ∷ []) (numeral-one_zero base)))
        one_zero (d ∷ rest) l = absurd (omega arith)
    go (inr other) = some_read base (c ∷ cs) (number_in-spelled base (c ∷ cs) (numeral-digits_value base c cs b (AreDigits-from base (c ∷ cs) each) other))

-- capping on the way changes nothing
capped_step : (most base v d : ℕ) → 1 ≤ base → min (min (min v most * base) most + d) most ≡ min (v * base + d) most
capped_step most base v d low = go (cases_lt v most)
  where
    go : (v < most) ⊎ (most ≤ v) → min (min (min v most * base) most + d) most ≡ min (v * base + d) most
    go (inl l) =
        let same : min v most ≡ v = omega arith in
        rw same (omega arith)
    go (inr l) =
        let same : min v most ≡ most = omega arith in
        let grows : most ≤ most * base = le-mul_of_pos_right most low in
        let more : most * base ≤ v * base = mul-le-mul_right base l in
        rw same (omega arith)

-- one digit more
pub capped-more : (base : ℕ) (field : List ℕ) (i : ℕ) → IsBase base → i < length field → digit_of (get_or field i 0) < base →
    capped (capped (capped (digits_value base (take i field)) * base) + digit_of (get_or field i 0)) ≡ capped (digits_value base (take (i + 1) field))
capped-more base field i b l h =
    let low : 1 ≤ base = omega (arith, base-low base b) in
    let high : digit_of (get_or field i 0) < 16 = omega (arith, h, base-high base b) in
    capped_step (2 ^ 64 - 1) base (digits_value base (take i field)) (digit_of (get_or field i 0)) low
    ∙ ap (λ (d : ℕ). capped (digits_value base (take i field) * base + d)) (sym (digit_value-digit_of (get_or field i 0) high))
    ∙ ap capped (sym (digits_value_more base field i l))
