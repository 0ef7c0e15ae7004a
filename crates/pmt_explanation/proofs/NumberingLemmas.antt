-- The numbers of labels, event by event.
use Rattle.std.proofs.Common.{◌≡◌, ℕ, zero, suc, ◌+◌, ◌<◌, ◌≤◌, ◌⊎◌, inl, inr, List, [], ◌∷◌, ◌++◌, length, length-append, Option, None, Some, refl, sym, ap, ◌∙◌, subst, arith}
use Rattle.std.specs.Prelude.{slice_get, unwrap_or}
use Rattle.std.proofs.lemmas.Bool.{cases_lt}
use Rattle.pmt_causes.specs.Groups.{label_of as number_of}
use Rattle.pmt_asked.specs.declared.labels.Labels.{Labels}
use Rattle.pmt_explanation.specs.Summing.{AreLabelNumbers, IsLabelNumber}

front-of : {X : Type 0} (xs : List X) (x : X) (k : ℕ) → k < length xs → slice_get (xs ++ x ∷ []) k ≡ slice_get xs k
front-of [] x k below = absurd (omega (arith, below))
front-of (y ∷ xs) x zero below = refl
front-of (y ∷ xs) x (suc k) below = front-of xs x k (omega (arith, below))

last-of : {X : Type 0} (xs : List X) (x : X) → slice_get (xs ++ x ∷ []) (length xs) ≡ Some x
last-of [] x = refl
last-of (y ∷ xs) x = last-of xs x

pub numbered-more : (labels : Labels) (n : ℕ) (numbers : List (Option ℕ)) (o : Option ℕ) → length numbers ≡ n → AreLabelNumbers labels n numbers → IsLabelNumber labels (n + 1) o →
    AreLabelNumbers labels (n + 1) (numbers ++ o ∷ [])
numbered-more labels n numbers o size before own = record {
  size = omega (arith, size, length-append numbers (o ∷ []));
  each = each;
}
  where
    at : (k : ℕ) → (k < n) ⊎ (n ≤ k) → k < n + 1 → IsLabelNumber labels (suc k) (unwrap_or (slice_get (numbers ++ o ∷ []) k) None)
    at k (inl below) within =
        subst (λ (x : Option (Option ℕ)). IsLabelNumber labels (suc k) (unwrap_or x None)) (sym (front-of numbers o k (omega (arith, size, below))))
        (before.each (suc k) (omega arith) (omega (arith, below)))
    at k (inr from) within =
        let place : k ≡ length numbers = omega (arith, size, from, within) in
        let event : n + 1 ≡ suc k = omega (arith, from, within) in
        subst (λ (x : Option (Option ℕ)). IsLabelNumber labels (suc k) (unwrap_or x None)) (sym (ap (slice_get (numbers ++ o ∷ [])) place ∙ last-of numbers o))
        (subst (λ (i : ℕ). IsLabelNumber labels i o) event own)

    each : (i : ℕ) → 0 < i → i ≤ n + 1 → IsLabelNumber labels i (number_of (numbers ++ o ∷ []) i)
    each zero past within = absurd (omega (arith, past))
    each (suc k) past within = at k (cases_lt k n) (omega (arith, within))
