-- The sum of the first digits, each by what it counts.
use Rattle.std.proofs.Common.{◌≡◌, ℕ, zero, suc, ◌+◌, ◌-◌, ◌*◌, ◌%◌, ◌<◌, ◌≤◌, true, List, [], ◌∷◌, ◌++◌, length, get_or, take, replicate, arith}
use Rattle.std.proofs.lemmas.Bool.Decides.{nat_tests}
use Rattle.std.specs.Char.{digit_value, is_ascii_digit}
use Rattle.std.specs.Str.Parse.{digits_value}
use lib.Lanes.{fold_l, pick_l, zip2}
use Rattle.pmt_lanes.specs.declared.decimal.TheConstants.{WORTH}
use Rattle.pmt_lanes.proofs.DigitLemmas.{written_out}

low : (c : ℕ) → is_ascii_digit c ≡ true → digit_value c < 10
low c h = grind (arith, nat_tests)

lane_is : (c : ℕ) → is_ascii_digit c ≡ true → digit_value c + 48 ≡ c
lane_is c h = grind (arith, nat_tests)

-- the sum of four lanes, each by its weight
abbrev summed : List ℕ → List ℕ → ℕ
summed v w =
    let digits = zip2 (λ a b. (a + (256 - b)) % 256) v (replicate 16 48) in
    fold_l (λ s x. (s + x) % 65536) 0 (zip2 (λ a b. a * b % 65536) (pick_l 0 (digits ++ digits) (0 ∷ 1 ∷ 2 ∷ 3 ∷ [])) w)

abbrev Sums : ℕ → List ℕ → Type 0
Sums n v = ((k : ℕ) → k < n → is_ascii_digit (get_or v k 0) ≡ true) → summed v (get_or WORTH n []) ≡ digits_value 10 (take n v)

-- one to four digits
sums : (n : ℕ) → 1 ≤ n → n ≤ 4 → (v : List ℕ) → length v ≡ 16 → Sums n v
sums (suc zero) some few v long = written_out (Sums 1) 16 (λ f h. omega (arith, low (f 0) (h 0 (omega arith)), lane_is (f 0) (h 0 (omega arith)))) v long
sums (suc (suc zero)) some few v long =
    written_out (Sums 2) 16 (λ f h. omega (arith, low (f 0) (h 0 (omega arith)), lane_is (f 0) (h 0 (omega arith)), low (f 1) (h 1 (omega arith)), lane_is (f 1) (h 1 (omega arith)))) v long
sums (suc (suc (suc zero))) some few v long =
    written_out (Sums 3) 16 (λ f h. omega (arith, low (f 0) (h 0 (omega arith)), lane_is (f 0) (h 0 (omega arith)), low (f 1) (h 1 (omega arith)), lane_is (f 1) (h 1 (omega arith)), low (f 2) (h 2 (omega arith)), lane_is (f 2) (h 2 (omega arith)))) v long
sums (suc (suc (suc (suc zero)))) some few v long =
    written_out (Sums 4) 16 (λ f h. omega (arith, low (f 0) (h 0 (omega arith)), lane_is (f 0) (h 0 (omega arith)), low (f 1) (h 1 (omega arith)), lane_is (f 1) (h 1 (omega arith)), low (f 2) (h 2 (omega arith)), lane_is (f 2) (h 2 (omega arith)), low (f 3) (h 3 (omega arith)), lane_is (f 3) (h 3 (omega arith)))) v long
sums a some few v long = absurd (omega arith)

pub value_is : (n : ℕ) → 1 ≤ n → n ≤ 4 → (v : List ℕ) → length v ≡ 16 → ((k : ℕ) → k < n → is_ascii_digit (get_or v k 0) ≡ true) → summed v (get_or WORTH n []) ≡ digits_value 10 (take n v)
value_is n some few v long h = sums n some few v long h
