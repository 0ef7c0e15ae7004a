-- What stands after the word of a line: the thread, the arguments, and the LF.
use Rattle.std.proofs.Common.{◌≡◌, ℕ, List, ◌∷◌, ◌++◌, ap, sym, ◌∙◌, append_assoc}
use Rattle.pmt_text.specs.Spelling.{address, numeral, spaced}
use Rattle.pmt_text.specs.Spelled.{spelled_span}

-- one field more
pub spaced-more : (field : List ℕ) (fields : List (List ℕ)) (text rest : List ℕ) → text ≡ spaced fields ++ rest → 32 ∷ (field ++ text) ≡ spaced (field ∷ fields) ++ rest
spaced-more field fields text rest e =
    ap (λ (xs : List ℕ). 32 ∷ (field ++ xs)) e ∙ ap (λ (xs : List ℕ). 32 ∷ xs) (sym (append_assoc field (spaced fields) rest))

-- a span more
pub spaced-span : (a n : ℕ) (fields : List (List ℕ)) (text rest : List ℕ) → text ≡ spaced fields ++ rest → 32 ∷ (spelled_span a n ++ text) ≡ spaced (address a ∷ numeral 10 n ∷ fields) ++ rest
spaced-span a n fields text rest e =
    ap (λ (xs : List ℕ). 32 ∷ xs) (append_assoc (address a) (32 ∷ numeral 10 n) text)
    ∙ spaced-more (address a) (numeral 10 n ∷ fields) (32 ∷ (numeral 10 n ++ text)) rest (spaced-more (numeral 10 n) fields text rest e)

-- the thread before the fields
pub thread-spaced : (thread : ℕ) (fields : List (List ℕ)) (text after rest : List ℕ) → text ≡ numeral 10 thread ++ after → after ≡ spaced fields ++ 10 ∷ rest → text ≡ numeral 10 thread ++ spaced fields ++ 10 ∷ rest
thread-spaced thread fields text after rest first e =
    first ∙ ap (λ (xs : List ℕ). numeral 10 thread ++ xs) e ∙ sym (append_assoc (numeral 10 thread) (spaced fields) (10 ∷ rest))
