-- The last colon of a word.
use Rattle.std.proofs.Common.{◌≡◌, ◌≢◌, ℕ, suc, ◌<◌, ◌≤◌, List, [], ◌∷◌, ◌++◌, take, drop, length, length-append, get_or, ◌==◌, Option, None, Some, option_map, refl, sym, ap, subst, ◌∙◌, arith}
use Rattle.std.specs.Str.{NoCharPasses}
use Rattle.std.specs.Str.Pattern.{RFindsChar, SplitsAroundMatch}
use Rattle.std.proofs.lemmas.List.{take-append-drop}
use Rattle.std.proofs.lemmas.Str.Pattern.{NoCharPasses-char, drop_at_char}
use Rattle.pmt_text.specs.Judging.{number_in, capped}
use Rattle.pmt_sources.specs.Places.{IsPlace, NoColon}

-- a list with a colon
has-colon : (before after : List ℕ) → NoColon (before ++ 58 ∷ after) → ⊥
has-colon [] after none = none.0 refl
has-colon (b ∷ before) after none = has-colon before after none.1

-- there is one last colon
pub one-colon : (a x b y : List ℕ) → NoColon x → NoColon y → a ++ 58 ∷ x ≡ b ++ 58 ∷ y → (a ≡ b) × (x ≡ y)
one-colon [] x [] y nx ny e = (refl, cc)
one-colon [] x (d ∷ b) y nx ny e = let t : x ≡ b ++ 58 ∷ y = cc in absurd (has-colon b y (subst NoColon t nx))
one-colon (c ∷ a) x [] y nx ny e = let t : y ≡ a ++ 58 ∷ x = cc in absurd (has-colon a x (subst NoColon t ny))
one-colon (c ∷ a) x (d ∷ b) y nx ny e =
    let t : a ++ 58 ∷ x ≡ b ++ 58 ∷ y = cc in
    let h : c ≡ d = cc in
    let rest = one-colon a x b y nx ny t in
    ((cc), rest.1)

-- by places
pub no-colon-by : (bytes : List ℕ) → ((i : ℕ) → i < length bytes → get_or bytes i 0 ≢ 58) → NoColon bytes
no-colon-by [] none = tt
no-colon-by (b ∷ bytes) none = (none 0 (omega arith), no-colon-by bytes (λ i below. none (suc i) (omega arith)))

-- a word with a colon has it at a place
pub colon-at : (before after : List ℕ) → get_or (before ++ 58 ∷ after) (length before) 0 ≡ 58
colon-at [] after = refl
colon-at (b ∷ before) after = colon-at before after

-- a word without a colon names no place
pub none-without : (word file : List ℕ) (line : ℕ) → NoCharPasses (λ d. d == 58) word → IsPlace word file line → ⊥
none-without word file line none p =
    let within : length file < length word = omega (arith, ap (λ (xs : List ℕ). length xs) p.whole, length-append file (58 ∷ p.digits)) in
    NoCharPasses-char 58 word (length file) none (omega arith) within (ap (λ (xs : List ℕ). get_or xs (length file) 0) p.whole ∙ colon-at file p.digits)

-- where a word is cut at its last colon
pub cut-at : (word file digits : List ℕ) → SplitsAroundMatch (RFindsChar 58) word file digits → (word ≡ file ++ 58 ∷ digits) × NoColon digits
cut-at word file digits (i, j, (none, at), front, back, order, size, all) =
    let rest : drop i word ≡ 58 ∷ digits = drop_at_char 58 word i j at (omega arith) ∙ ap (λ xs. 58 ∷ xs) (sym back) in (
      sym (take-append-drop i word) ∙ ap (λ xs. take i word ++ xs) rest ∙ ap (λ xs. xs ++ 58 ∷ digits) (sym front),
      no-colon-by digits (λ k below. NoCharPasses-char 58 digits k (subst (NoCharPasses (λ d. d == 58)) (sym back) none) (omega arith) below),
    )

-- a place is read where the word is cut
pub read-as : (word file digits f : List ℕ) (l : ℕ) → (word ≡ file ++ 58 ∷ digits) × NoColon digits → IsPlace word f l → (f ≡ file) × (number_in 10 digits ≡ Some l)
read-as word file digits f l (whole, none) p =
    let same = one-colon f p.digits file digits p.last none (sym p.whole ∙ whole) in
    (same.0, ap (number_in 10) (sym same.1) ∙ p.number)

-- numbers that are cut at the greatest one of 64 bits
capped-same : (n line : ℕ) → line ≡ capped n → line ≤ 9_999_999 → n ≡ line
capped-same n line is most = omega (arith, is, most)

pub uncapped : (o : Option ℕ) (line : ℕ) → Some line ≡ option_map capped o → line ≤ 9_999_999 → o ≡ Some line
uncapped None line is most = absurd cc
uncapped (Some n) line is most = let same : line ≡ capped n = cc in ap Some (capped-same n line same most)

pub read-none : (o : Option ℕ) (l : ℕ) → None ≡ option_map capped o → o ≡ Some l → ⊥
read-none o l is own = let both : None ≡ option_map capped (Some l) = is ∙ ap (option_map capped) own in absurd cc

-- what is read is no other number
pub read-line : (o : Option ℕ) (line l : ℕ) → Some line ≡ option_map capped o → o ≡ Some l → line ≡ capped l
read-line o line l is own = let both : Some line ≡ option_map capped (Some l) = is ∙ ap (option_map capped) own in cc

pub capped-above : (l : ℕ) → 0 < l → capped l ≢ 0
capped-above l some is = omega (arith, some, is)

pub capped-most : (l : ℕ) → capped l ≤ l
capped-most l = omega arith
