-- The order in which places are told.
use Rattle.pmt_fates.proofs.Prelude.{◌≡◌, ℕ, suc, ◌+◌, ◌<◌, ◌≤◌, inl, inr, List, length, get_or, Some, ap, subst, ◌∙◌, sym, arith, slice_get, nat_cmp, IsPermutation, IsSortedByKey, IsStableByKey, cases_lt, get_or_from_slice_get, slice_get_within, IsPermutation-trans, IsNonDecreasingBy-from_sort, ties_still_rise, less, paid, wasted}
use Rattle.pmt_fates.specs.declared.costs.PlaceCost.{PlaceCost}
use Rattle.pmt_fates.specs.Counting.{AreInOrder, ComesBefore}

abbrev pub less_paid : PlaceCost → ℕ
less_paid p = less (paid p)

abbrev pub less_wasted : PlaceCost → ℕ
less_wasted p = less (wasted p)

-- places by what they pay that are sorted by what does nothing, and stably
pub in-order : (given by_paid places : List PlaceCost) → IsPermutation given by_paid → IsPermutation by_paid places → IsSortedByKey less_paid nat_cmp by_paid →
    IsStableByKey less_wasted nat_cmp by_paid places → IsSortedByKey less_wasted nat_cmp places → AreInOrder given places
in-order given by_paid places first second rising stable sorted = record { same = IsPermutation-trans given by_paid places first second; order = order }
  where
    order : (k : ℕ) (p q : PlaceCost) → slice_get places k ≡ Some p → slice_get places (suc k) ≡ Some q → ComesBefore p q
    order k p q here there =
        let within : suc k < length places = slice_get_within places (suc k) q there in
        let e : get_or places k p ≡ p = get_or_from_slice_get places k p p here in
        let f : get_or places (k + 1) p ≡ q = ap (λ j. get_or places j p) {x = k + 1} {y = suc k} (omega arith) ∙ get_or_from_slice_get places (suc k) q p there in
        let upto : less_wasted p ≤ less_wasted q =
        subst (λ x. less_wasted x ≤ less_wasted q) e (subst (λ x. less_wasted (get_or places k p) ≤ less_wasted x) f (IsNonDecreasingBy-from_sort less_wasted places sorted k (k + 1) p (omega arith) (omega arith)))
        in
        elim (cases_lt (less_wasted p) (less_wasted q)) [
          | inl more ↦ inl more
          | inr no_more ↦
              let equal : less_wasted p ≡ less_wasted q = omega (arith, upto, no_more) in
              let tie : less_wasted (get_or places k p) ≡ less_wasted (get_or places (k + 1) p) = ap less_wasted e ∙ equal ∙ ap less_wasted (sym f) in
              let rise = ties_still_rise less_paid less_wasted by_paid places rising stable k p (omega arith) tie in
              inr (equal, subst (λ x. less_paid x ≤ less_paid q) e (subst (λ x. less_paid (get_or places k p) ≤ less_paid x) f rise))
        ]
