-- The values of digits, and the numbers and bytes that they write.
use Rattle.std.proofs.Common.{◌≡◌, ℕ, zero, suc, ◌+◌, ◌-◌, ◌*◌, ◌/◌, ◌%◌, ◌^◌, ◌<◌, ◌≤◌, Bool, true, false, cond, List, [], ◌∷◌, map, length, get_or, take, length-take-le, refl, sym, ◌∙◌, ap, ap₂, subst, arith, one-add, pow-add, pow-suc, div-one, bit_and, w8, w64, Fits}
use Rattle.std.proofs.Math.Arith.{digits_div}
use Rattle.std.proofs.lemmas.Bool.Decides.{nat_tests}
use Rattle.std.proofs.lemmas.Int.Digits.{digits_value_is}
use Rattle.std.proofs.lemmas.List.{ext_get_or, length-map, take-map, take-take}
use Rattle.std.proofs.lemmas.Nat.{and_le_r, and_mask, le_bytes_8}
use Rattle.std.proofs.lemmas.List.FromFn.{length-map-range_with_len, get_or-map-range_with_len}
use Rattle.std.specs.Char.{digit_value}
use Rattle.std.specs.Int.{from_be_bytes, from_le_bytes, to_le_bytes}
use Rattle.std.specs.Int.Digits.{number_from_digits, number_from_digits_after, AllBelowBase}
use Rattle.std.specs.List.{prefix_len, range_with_len}
use Rattle.std.specs.Str.Parse.{digits_value}
use Rattle.std.proofs.Math.Nat.{pow-zero, sub-zero, div-div-eq-div-mul}
use lib.Lanes.{number_l, digits_l}
use Rattle.pmt_lanes.specs.Digits.{is_hex_digit, paired, joined, nibble}

-- ---- A list of n numbers, written out

abbrev listed : (ℕ → ℕ) → ℕ → List ℕ
listed f n = map f (range_with_len 0 n)

-- a fact of each list of n numbers, from the same of n numbers written out
pub written_out : (P : List ℕ → Type 0) (n : ℕ) → ((f : ℕ → ℕ) → P (listed f n)) → (xs : List ℕ) → length xs ≡ n → P xs
written_out P n h xs long =
    let f : ℕ → ℕ = λ k. get_or xs k 0 in
    let many = length-map-range_with_len f 0 n in
    subst P (ext_get_or 0 _ xs (many ∙ sym long) (λ i l. get_or-map-range_with_len f 0 n i i 0 (omega arith) (omega arith))) (h f)

-- ---- Digits

nibble-lt : (c : ℕ) → nibble c < 16
nibble-lt c = grind (arith, nat_tests)

pub nibbles-lt : (v : List ℕ) → AllBelowBase 16 (map nibble v)
nibbles-lt [] = tt
nibbles-lt (x ∷ xs) = (nibble-lt x, nibbles-lt xs)

digit_is : (c : ℕ) → is_hex_digit c ≡ true → nibble c ≡ digit_value c
digit_is c h = grind (arith, nat_tests)

run_step : (b : Bool) (x n : ℕ) (xs : List ℕ) → (b ≡ true → nibble x ≡ digit_value x) → map nibble (take n xs) ≡ map digit_value (take n xs)
    → map nibble (take (cond b (1 + n) 0) (x ∷ xs)) ≡ map digit_value (take (cond b (1 + n) 0) (x ∷ xs))
run_step true x n xs is rest = rw (one-add n) (ap₂ (λ (a : ℕ) (l : List ℕ). a ∷ l) (is refl) rest)
run_step false x n xs is rest = refl

-- the nibbles of a run of digits are their values
run_values : (xs : List ℕ) → map nibble (take (prefix_len is_hex_digit xs) xs) ≡ map digit_value (take (prefix_len is_hex_digit xs) xs)
run_values [] = refl
run_values (x ∷ xs) = run_step (is_hex_digit x) x (prefix_len is_hex_digit xs) xs (digit_is x) (run_values xs)

-- ---- Numbers

-- what the digits write that come after a number, without them
after : (b m : ℕ) (ds : List ℕ) → AllBelowBase b ds → number_from_digits_after b m ds / b ^ length ds ≡ m
after b m [] h = ap (λ (k : ℕ). m / k) (pow-zero b) ∙ div-one m
after b m (d ∷ ds) h =
    ap (λ (k : ℕ). number_from_digits_after b (m * b + d) ds / k) (pow-suc b (length ds))
    ∙ sym (div-div-eq-div-mul (number_from_digits_after b (m * b + d) ds) (b ^ length ds) b)
    ∙ ap (λ (k : ℕ). k / b) (after b (m * b + d) ds h.1)
    ∙ digits_div m h.0

-- the first n digits, of a number that begins with m
front : (b m n : ℕ) (ds : List ℕ) → AllBelowBase b ds → n ≤ length ds → number_from_digits_after b m ds / b ^ (length ds - n) ≡ number_from_digits_after b m (take n ds)
front b m zero ds h few = ap (λ (k : ℕ). number_from_digits_after b m ds / b ^ k) (sub-zero (length ds)) ∙ after b m ds h
front b m (suc n) [] h few = absurd (omega arith)
front b m (suc n) (d ∷ ds) h few =
    let less : suc (length ds) - suc n ≡ length ds - n = omega arith in
    ap (λ (k : ℕ). number_from_digits_after b (m * b + d) ds / b ^ k) less ∙ front b (m * b + d) n ds h.1 (omega arith)

sixteens : (k : ℕ) → 2 ^ (4 * k) ≡ 16 ^ k
sixteens zero = refl
sixteens (suc k) =
    let four : 4 * suc k ≡ 4 * k + 4 = omega arith in
    ap (λ (n : ℕ). 2 ^ n) four ∙ pow-add 2 (4 * k) 4 ∙ ap (λ (n : ℕ). n * 16) (sixteens k) ∙ sym (pow-suc 16 k)

-- eight bytes of sixteen digits, the first of them highest, are the number
pub number_joined : (ds : List ℕ) → length ds ≡ 16 → from_be_bytes w64 (joined ds) ≡ number_from_digits 16 ds
number_joined ds long = written_out (λ xs. from_be_bytes w64 (joined xs) ≡ number_from_digits 16 xs) 16 (λ f. omega arith) ds long

-- the first bytes, where they are a run of digits
first_values : (text : List ℕ) (n : ℕ) → n ≡ prefix_len is_hex_digit (take 16 text) → n ≤ 16 → map nibble (take n text) ≡ map digit_value (take n text)
first_values text n run few =
    let P : List ℕ → Type 0 = λ cs. map nibble cs ≡ map digit_value cs in
    subst P (ap (λ (k : ℕ). take k (take 16 text)) (sym run) ∙ take-take n 16 text few) (run_values (take 16 text))

-- the number of the digits in a run
pub number_read : (text : List ℕ) (n number : ℕ) → 16 ≤ length text → n ≡ prefix_len is_hex_digit (take 16 text) → n ≤ 16 → number ≡ from_be_bytes w64 (joined (map nibble (take 16 text)))
    → number / 2 ^ (64 - 4 * n) ≡ digits_value 16 (take n text)
number_read text n number room run few is =
    let ds : List ℕ = map nibble (take 16 text) in
    let long : length ds ≡ 16 = length-map (take 16 text) nibble ∙ length-take-le 16 text room in
    let shift : 64 - 4 * n ≡ 4 * (16 - n) = omega (arith, few) in
    ap (λ (k : ℕ). k / 2 ^ (64 - 4 * n)) (is ∙ number_joined ds long)
    ∙ ap (λ (k : ℕ). number_from_digits 16 ds / k) (ap (λ (k : ℕ). 2 ^ k) shift ∙ sixteens (16 - n) ∙ ap (λ (k : ℕ). 16 ^ (k - n)) (sym long))
    ∙ front 16 0 n ds (nibbles-lt (take 16 text)) (omega (arith, long, few))
    ∙ ap (number_from_digits 16) (take-map nibble n (take 16 text) ∙ ap (map nibble) (take-take n 16 text few) ∙ first_values text n run few)
    ∙ sym (digits_value_is 16 (take n text))

-- ---- Pairs

-- lanes of two bytes
abbrev wide : List ℕ → List ℕ
wide [] = []
wide (x ∷ []) = []
wide (x ∷ y ∷ rest) = (x + 256 * y) ∷ wide rest

widened : (n : ℕ) (xs : List ℕ) → length xs ≡ n + n → AllBelowBase 16 xs → digits_l 65536 n (number_l 256 xs) ≡ wide xs
widened zero [] long low = refl
widened (suc n) (x ∷ y ∷ rest) long low =
    let r : ℕ = number_l 256 rest in
    let lane : (x + 256 * (y + 256 * r)) % 65536 ≡ x + 256 * y = omega (arith, low.0, low.1.0) in
    let on : (x + 256 * (y + 256 * r)) / 65536 ≡ r = omega (arith, low.0, low.1.0) in
    ap₂ (λ (a k : ℕ). a ∷ digits_l 65536 n k) lane on ∙ ap (λ (l : List ℕ). (x + 256 * y) ∷ l) (widened n rest (omega arith) low.1.1)
widened b c long low = absurd (omega arith)

-- two digits of a lane as one byte
abbrev both : ℕ → ℕ
both z = bit_and ((z * 16 % 65536 + z / 256) % 65536) 255

pub low_byte : (z : ℕ) → Fits w8 (bit_and z 255)
low_byte z = record { fits = omega (arith, and_le_r z 255) }

both_are : (xs : List ℕ) → AllBelowBase 16 xs → map both (wide xs) ≡ joined xs
both_are (x ∷ y ∷ rest) low =
    let z : ℕ = x + 256 * y in
    let lane : both z ≡ 16 * x + y = and_mask ((z * 16 % 65536 + z / 256) % 65536) 8 ∙ omega (arith, low.0, low.1.0) in
    ap₂ (λ (a : ℕ) (l : List ℕ). a ∷ l) lane (both_are rest low.1.1)
both_are b low = refl

pub join_is : (xs : List ℕ) → length xs ≡ 16 → AllBelowBase 16 xs → map both (digits_l 65536 8 (number_l 256 xs)) ≡ joined xs
join_is xs long low = ap (map both) (widened 8 xs long low) ∙ both_are xs low

joined_values : (xs : List ℕ) → joined (map digit_value xs) ≡ paired xs
joined_values (x ∷ y ∷ rest) = ap (λ (l : List ℕ). (16 * digit_value x + digit_value y) ∷ l) (joined_values rest)
joined_values a = refl

take_joined : (n : ℕ) (ds : List ℕ) → take n (joined ds) ≡ joined (take (2 * n) ds)
take_joined zero ds = refl
take_joined (suc n) (x ∷ y ∷ rest) =
    let even : 2 * suc n ≡ suc (suc (2 * n)) = omega arith in
    rw even (ap (λ (l : List ℕ). (16 * x + y) ∷ l) (take_joined n rest))
take_joined (suc n) a = let even : 2 * suc n ≡ suc (suc (2 * n)) = omega arith in rw even refl

joined-lt : (ds : List ℕ) → AllBelowBase 16 ds → (i : ℕ) → get_or (joined ds) i 0 < 256
joined-lt (x ∷ y ∷ rest) low zero = omega (arith, low.0, low.1.0)
joined-lt (x ∷ y ∷ rest) low (suc i) = joined-lt rest low.1.1 i
joined-lt a low i = omega arith

-- the bytes that the pairs of a run write
pub bytes_read : (text : List ℕ) (n number : ℕ) → 16 ≤ length text → 2 * n ≡ prefix_len is_hex_digit (take 16 text) → 2 * n ≤ 16 → number ≡ from_le_bytes w64 (joined (map nibble (take 16 text)))
    → take n (to_le_bytes w64 number) ≡ paired (take (2 * n) text)
bytes_read text n number room run few is =
    let ds : List ℕ = map nibble (take 16 text) in
    let long : length ds ≡ 16 = length-map (take 16 text) nibble ∙ length-take-le 16 text room in
    let eight : length (joined ds) ≡ 8 = written_out (λ xs. length (joined xs) ≡ 8) 16 (λ f. refl) ds long in
    ap (take n) (le_bytes_8 (joined ds) number eight (joined-lt ds (nibbles-lt (take 16 text))) is)
    ∙ take_joined n ds
    ∙ ap joined (take-map nibble (2 * n) (take 16 text) ∙ ap (map nibble) (take-take (2 * n) 16 text few) ∙ first_values text (2 * n) run few)
    ∙ joined_values (take (2 * n) text)
