-- Numbers as std writes them are spelled as in a trace.
use Rattle.std.proofs.Common.{◌≡◌, ℕ, zero, suc, ◌+◌, ◌^◌, ◌<◌, List, [], ◌∷◌, map, refl, sym, ap, ◌∙◌, ◌++◌, append_assoc, codes, arith, ne_eqb, ◌==◌}
use Rattle.std.specs.Fmt.{decimal}
use Rattle.std.specs.Int.Digits.{digits_of, AllBelowBase}
use Rattle.std.proofs.lemmas.Bool.{cond-false}
use Rattle.std.proofs.lemmas.Bool.Decides.{nat_tests}
use Rattle.std.proofs.lemmas.Fmt.{decimal-digits_of, decimal_digit}
use Rattle.std.proofs.lemmas.Int.Digits.{all_below_base_digits_of}
use Rattle.pmt_text.specs.Spelling.{glyph, numeral}

glyph-small : (d : ℕ) → d < 10 → glyph d ≡ 48 + d
glyph-small d h = grind (arith, nat_tests)

glyphs-small : (ds : List ℕ) → AllBelowBase 10 ds → map glyph ds ≡ map (λ d. 48 + d) ds
glyphs-small [] h = refl
glyphs-small (d ∷ ds) h =
    ap (λ (x : ℕ). x ∷ map glyph ds) (glyph-small d h.0) ∙ ap (λ (xs : List ℕ). (48 + d) ∷ xs) (glyphs-small ds h.1)

-- what std writes of a number is its numeral
pub numeral-decimal : (n : ℕ) → n < 2 ^ 64 → numeral 10 n ≡ decimal n
unfolding numeral
numeral-decimal zero h = sym (decimal_digit 0 (omega arith))
numeral-decimal (suc n) h =
    cond-false (suc n == 0) (48 ∷ []) (map glyph (digits_of 10 (suc n))) (ne_eqb (suc n) 0 (λ e. omega arith))
    ∙ glyphs-small (digits_of 10 (suc n)) (all_below_base_digits_of 10 (suc n) (omega arith))
    ∙ sym (decimal-digits_of (suc n) (omega arith) h)

-- a line and the name of what is wrong there
pub fault-of_line : (n : ℕ) (name : List ℕ) → n < 2 ^ 64 →
    codes "trace line " ++ (decimal n ++ (codes ": " ++ name)) ≡ codes "trace line " ++ numeral 10 n ++ codes ": " ++ name
fault-of_line n name h =
    ap (λ (d : List ℕ). codes "trace line " ++ (d ++ (codes ": " ++ name))) (sym (numeral-decimal n h))
    ∙ ap (λ (rest : List ℕ). codes "trace line " ++ rest) (sym (append_assoc (numeral 10 n) (codes ": ") name))
