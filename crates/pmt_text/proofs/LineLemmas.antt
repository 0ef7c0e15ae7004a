-- Where a byte cuts a list of bytes: fields by spaces, and lines by LF.
use Rattle.std.proofs.Common.{◌≡◌, ◌≢◌, ℕ, zero, suc, ◌+◌, ◌<◌, false, ◌==◌, List, [], ◌∷◌, ◌++◌, length, get_or, take, drop, refl, sym, ◌∙◌, ap, arith, eq-eqb, ne_eqb}
use Rattle.std.specs.List.{slice_split, onto_first, join_with_byte, AllByRecursion}
use Rattle.std.proofs.lemmas.List.Splits.{slice_split-cons_yes, slice_split-cons_no}

-- what stands between the bytes c
abbrev pub parts : ℕ → List ℕ → List (List ℕ)
parts c bytes = slice_split (λ b. b == c) bytes

-- the first c cuts off the first part
pub parts-at : (c : ℕ) (bytes : List ℕ) (i : ℕ) → i < length bytes → get_or bytes i 0 ≡ c → ((k : ℕ) → k < i → get_or bytes k 0 ≢ c) → parts c bytes ≡ take i bytes ∷ parts c (drop (i + 1) bytes)
parts-at c [] i l e before = absurd (omega arith)
parts-at c (b ∷ bytes) zero l e before = slice_split-cons_yes (λ x. x == c) b bytes (eq-eqb b c e)
parts-at c (b ∷ bytes) (suc i) l e before =
    let step : suc i + 1 ≡ suc (i + 1) = omega arith in
    slice_split-cons_no (λ x. x == c) b bytes (ne_eqb b c (before 0 (omega arith)))
    ∙ ap (onto_first b) (parts-at c bytes i (omega arith) e (λ k l'. before (suc k) (omega arith)))
    ∙ ap (λ (n : ℕ). (b ∷ take i bytes) ∷ parts c (drop n (b ∷ bytes))) (sym step)

-- where no c is, there is one part
pub parts-none : (c : ℕ) (bytes : List ℕ) → ((k : ℕ) → k < length bytes → get_or bytes k 0 ≢ c) → parts c bytes ≡ bytes ∷ []
parts-none c [] none = refl
parts-none c (b ∷ bytes) none =
    slice_split-cons_no (λ x. x == c) b bytes (ne_eqb b c (none 0 (omega arith)))
    ∙ ap (onto_first b) (parts-none c bytes (λ k l. none (suc k) (omega arith)))

-- no byte is c
abbrev pub IsFree : ℕ → List ℕ → Type 0
IsFree c bytes = AllByRecursion (λ b. (b == c) ≡ false) bytes

-- a part without c, with c after it, is the first part
pub parts-append : (c : ℕ) (part rest : List ℕ) → IsFree c part → parts c (part ++ c ∷ rest) ≡ part ∷ parts c rest
parts-append c [] rest free = slice_split-cons_yes (λ x. x == c) c rest (eq-eqb c c refl)
parts-append c (b ∷ part) rest free =
    slice_split-cons_no (λ x. x == c) b (part ++ c ∷ rest) free.0 ∙ ap (onto_first b) (parts-append c part rest free.1)

-- bytes without c are one part
pub parts-free : (c : ℕ) (part : List ℕ) → IsFree c part → parts c part ≡ part ∷ []
parts-free c [] free = refl
parts-free c (b ∷ part) free = slice_split-cons_no (λ x. x == c) b part free.0 ∙ ap (onto_first b) (parts-free c part free.1)

-- fields without c that are joined by c are the parts
pub parts-join : (c : ℕ) (field : List ℕ) (fields : List (List ℕ)) → AllByRecursion (IsFree c) (field ∷ fields) → parts c (join_with_byte c (field ∷ fields)) ≡ field ∷ fields
parts-join c field [] free = parts-free c field free.0
parts-join c field (next ∷ fields) free =
    parts-append c field (join_with_byte c (next ∷ fields)) free.0 ∙ ap (λ (xs : List (List ℕ)). field ∷ xs) (parts-join c next fields free.1)
