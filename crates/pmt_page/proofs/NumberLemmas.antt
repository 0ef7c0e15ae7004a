-- Numbers in base 64, digit by digit.
use Rattle.pmt_page.proofs.Prelude.{◌≡◌, ℕ, ◌/◌, ◌%◌, ◌<◌, List, [], ◌∷◌, ◌++◌, map, ap, sym, ◌∙◌, arith, append_assoc, digits_of, digits_of_step, map-append, digit, short}

-- A number is spelled as what is left of it without its last digit, and that digit.
pub short-more : (n : ℕ) → 0 < n → short n ≡ short (n / 64) ++ digit (n % 64) ∷ []
short-more n above = ap (map digit) (digits_of_step 64 n (omega arith) above) ∙ map-append digit (digits_of 64 (n / 64)) (n % 64 ∷ [])

-- What stands behind a text once a number is added without its last digit, and then that digit.
pub short-added : (text : List ℕ) (n : ℕ) → 0 < n → (text ++ short (n / 64)) ++ digit (n % 64) ∷ [] ≡ text ++ short n
short-added text n above =
    append_assoc text (short (n / 64)) (digit (n % 64) ∷ []) ∙ ap (λ (s : List ℕ). text ++ s) (sym (short-more n above))
