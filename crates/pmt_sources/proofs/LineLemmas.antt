-- Where lines end.
use Rattle.std.proofs.Common.{◌≡◌, ◌≢◌, ℕ, zero, suc, ◌+◌, ◌-◌, ◌<◌, ◌≤◌, ◌==◌, List, [], ◌∷◌, take, drop, length, get_or, refl, sym, ap, ◌∙◌, arith, None}
use Rattle.std.proofs.lemmas.Bool.{cond-true, cond-false, eq-eqb, eqb-true, ne_eqb}
use Rattle.memchr.specs.Find.{Passes, is_byte}
use Rattle.pmt_sources.specs.Places.{front_line, after_line, after_lines, first_line}

-- a text whose first LF is at place k
pub cut-front : (text : List ℕ) (k : ℕ) → k < length text → get_or text k 0 ≡ 10 → ((i : ℕ) → i < k → get_or text i 0 ≢ 10) → take k text ≡ front_line text
cut-front [] k within at none = absurd (omega (arith, within))
cut-front (b ∷ text) zero within at none = sym (cond-true (b == 10) [] (b ∷ front_line text) (eq-eqb b 10 at))
cut-front (b ∷ text) (suc k) within at none =
    ap (λ xs. b ∷ xs) (cut-front text k (omega arith) at (λ i below. none (suc i) (omega arith)))
    ∙ sym (cond-false (b == 10) [] (b ∷ front_line text) (ne_eqb b 10 (none 0 (omega arith))))

pub cut-after : (text : List ℕ) (k : ℕ) → k < length text → get_or text k 0 ≡ 10 → ((i : ℕ) → i < k → get_or text i 0 ≢ 10) → drop (suc k) text ≡ after_line text
cut-after [] k within at none = absurd (omega (arith, within))
cut-after (b ∷ text) zero within at none = sym (cond-true (b == 10) text (after_line text) (eq-eqb b 10 at))
cut-after (b ∷ text) (suc k) within at none =
    cut-after text k (omega arith) at (λ i below. none (suc i) (omega arith))
    ∙ sym (cond-false (b == 10) text (after_line text) (ne_eqb b 10 (none 0 (omega arith))))

-- a text without LF
pub whole-front : (text : List ℕ) → ((i : ℕ) → i < length text → get_or text i 0 ≢ 10) → text ≡ front_line text
whole-front [] none = refl
whole-front (b ∷ text) none =
    ap (λ xs. b ∷ xs) (whole-front text (λ i below. none (suc i) (omega arith)))
    ∙ sym (cond-false (b == 10) [] (b ∷ front_line text) (ne_eqb b 10 (none 0 (omega arith))))

pub whole-after : (text : List ℕ) → ((i : ℕ) → i < length text → get_or text i 0 ≢ 10) → [] ≡ after_line text
whole-after [] none = refl
whole-after (b ∷ text) none =
    whole-after text (λ i below. none (suc i) (omega arith))
    ∙ sym (cond-false (b == 10) text (after_line text) (ne_eqb b 10 (none 0 (omega arith))))

-- after nothing comes nothing
pub after-nothing : (n : ℕ) → after_lines n [] ≡ []
after-nothing zero = refl
after-nothing (suc n) = after-nothing n

-- one more line
pub after-more : (n : ℕ) (text : List ℕ) → after_lines (suc n) text ≡ after_line (after_lines n text)
after-more zero text = refl
after-more (suc n) text = after-more n (after_line text)

-- all lines are after some of them
pub after-rest : (n m : ℕ) (text : List ℕ) → after_lines (n + m) text ≡ after_lines m (after_lines n text)
after-rest zero m text = let e : 0 + m ≡ m = omega arith in ap (λ i. after_lines i text) e
after-rest (suc n) m text = let e : suc n + m ≡ suc (n + m) = omega arith in ap (λ i. after_lines i text) e ∙ after-rest n m (after_line text)

-- no line comes after the last one
pub ended : (n k : ℕ) (text : List ℕ) → k ≤ n → after_lines k text ≡ [] → first_line (after_lines n text) ≡ None
ended n k text by is =
    let m : n ≡ k + (n - k) = omega arith in
    ap (λ i. first_line (after_lines i text)) m ∙ ap first_line (after-rest k (n - k) text ∙ ap (after_lines (n - k)) is ∙ after-nothing (n - k))

-- what a search for LF tells
pub byte-is : (text : List ℕ) (k : ℕ) → Passes (is_byte 10) text k → get_or text k 0 ≡ 10
byte-is text k passes = eqb-true (get_or text k 0) 10 passes

pub byte-not : (text : List ℕ) (k : ℕ) → ¬ Passes (is_byte 10) text k → get_or text k 0 ≢ 10
byte-not text k none is = none (eq-eqb (get_or text k 0) 10 is)

pub drop-length : (text : List ℕ) → drop (length text) text ≡ []
drop-length [] = refl
drop-length (b ∷ text) = drop-length text

pub nothing : (text : List ℕ) → length text ≡ 0 → text ≡ []
nothing [] none = refl
nothing (b ∷ text) none = absurd (omega (arith, none))
