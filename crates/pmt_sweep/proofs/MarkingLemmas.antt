-- The entries of one line's stores, from its last one down to the last safe one.
use Rattle.std.proofs.Common.{◌≡◌, ℕ, zero, suc, ◌<◌, ◌≤◌, inl, inr, List, length, refl, sym, ap, subst, ◌∙◌, arith}
use Rattle.std.specs.Prelude.{slice_index, slice_set}
use Rattle.std.proofs.lemmas.Bool.{cases_eq, cases_lt}
use Rattle.std.proofs.lemmas.List.{get_or-set_same, get_or-set_other, length-set}
use Rattle.pmt_laws.specs.Prelude.{Stores, Recording}
use Rattle.pmt_laws.proofs.Histories.{act-within}
use Rattle.pmt_safety.specs.Safety.{last_line_store_at, safe_store_at}
use Rattle.pmt_safety.proofs.StoreLemmas.{IsLineStore, last-is_store, last-greatest}
use Rattle.pmt_rows.proofs.LinkedLemmas.{last-by_now}
use Rattle.pmt_rows.specs.declared.rows.Row.{Row}
use Rattle.pmt_sweep.specs.Entries.{IsLost, entry_of_lost, lost_entry, IsLineEnd, IsLineLostAfter, IsLineMarked}

-- The walk has come down to this store to line l, or to 0: the entries above it tell whether a flush follows.
pub record IsWalking (T : Recording) (l : ℕ) (old new : List ℕ) (number : ℕ) : Type 0 where
  pub many : length new ≡ length old
  pub is : IsLineStore T l (length T.events) number
  pub own : (j : ℕ) → IsLost T l j → number < j → slice_index new j ≡ lost_entry T l j
  pub others : (j : ℕ) → (IsLost T l j → j ≤ number) → slice_index new j ≡ slice_index old j

module _ (T : Recording) (l : ℕ) (row : Row) (old : List ℕ) (end : IsLineEnd T l row old) where
  last-is : row.last_store ≡ last_line_store_at T l (length T.events)
  last-is = ap (λ (r : Row). r.last_store) end.ends

  -- no lost store comes after the last one
  pub none-above : (j : ℕ) → IsLost T l j → row.last_store < j → ⊥
  none-above j lost above =
      let within = act-within T j (Stores l lost.what) lost.is_store in
      omega (arith, above, last-is, last-greatest T l (length T.events) j lost.what lost.is_store within.1)

  pub walk-starts : IsWalking T l old old row.last_store
  walk-starts = record { many = refl; is = subst (IsLineStore T l (length T.events)) (sym last-is) (last-is_store T l (length T.events)); own = λ j lost above. absurd (none-above j lost above); others = λ j below. refl }

  safe-is : row.safe ≡ safe_store_at T l (length T.events)
  safe-is = ap (λ (r : Row). r.safe) end.ends

  -- above the last safe store it stands at a store that is lost
  at-lost : (number : ℕ) → row.safe < number → IsLineStore T l (length T.events) number → IsLost T l number
  at-lost number above (inl none) = absurd (omega (arith, above, none))
  at-lost number above (inr x) = record { what = x.0; is_store = x.1; later = omega (arith, above, safe-is) }

  module _ (new : List ℕ) (number : ℕ) (above : row.safe < number) (w : IsWalking T l old new number) where
    lost-here : IsLost T l number
    lost-here = at-lost number above w.is

    pub in-entries : number < length new
    in-entries =
        let lost = lost-here in
        let within = act-within T number (Stores l lost.what) lost.is_store in
        omega (arith, within.1, w.many, end.many)

  -- the entry that it gets
  pub entry-is : (number entry : ℕ) → entry ≡ entry_of_lost number row.last_flush → entry ≡ lost_entry T l number
  entry-is number entry told = told ∙ ap (entry_of_lost number) (ap (λ (r : Row). r.last_flush) end.ends)

  -- what the entry of a store leads to
  leads : (new : List ℕ) (i : ℕ) → row.safe < suc i → IsWalking T l old new (suc i) → slice_index new (suc i) ≡ last_line_store_at T l i
  leads new i above w = w.others (suc i) (λ lost. omega arith) ∙ end.pending i (lost-here new (suc i) above w)

  pub walk-less : (new : List ℕ) (number : ℕ) → row.safe < number → IsWalking T l old new number → slice_index new number < number
  walk-less new zero above w = absurd (omega (arith, above))
  walk-less new (suc i) above w = omega (arith, leads new i above w, last-by_now T l i)

  pub walk-on : (new : List ℕ) (number entry : ℕ) → row.safe < number → entry ≡ lost_entry T l number → IsWalking T l old new number → IsWalking T l old (slice_set new number entry) (slice_index new number)
  walk-on new zero entry above told w = absurd (omega (arith, above))
  walk-on new (suc i) entry above told w = record {
    many = length-set new (suc i) entry ∙ w.many;
    is = subst (IsLineStore T l (length T.events)) (sym down) (further (last-is_store T l i));
    own = own;
    others = others;
  }
    where
      here : IsLost T l (suc i)
      here = lost-here new (suc i) above w

      down : slice_index new (suc i) ≡ last_line_store_at T l i
      down = leads new i above w

      within : suc i < length new
      within = in-entries new (suc i) above w

      further : IsLineStore T l i (last_line_store_at T l i) → IsLineStore T l (length T.events) (last_line_store_at T l i)
      further (inl none) = inl none
      further (inr x) = inr (x.0, x.1, omega (arith, x.2, within, w.many, end.many))

      own : (j : ℕ) → IsLost T l j → slice_index new (suc i) < j → slice_index (slice_set new (suc i) entry) j ≡ lost_entry T l j
      own j lost later = elim (cases_eq j (suc i)) [
        | inl same ↦ ap (slice_index (slice_set new (suc i) entry)) same ∙ get_or-set_same new (suc i) entry 0 within ∙ told ∙ ap (lost_entry T l) (sym same)
        | inr other ↦ elim (cases_lt (suc i) j) [
          | inl higher ↦ get_or-set_other new (suc i) j entry 0 other ∙ w.own j lost higher
          | inr low ↦ absurd (omega (arith, later, down, low, other, last-greatest T l i j lost.what lost.is_store (omega (arith, low, other))))
        ]
      ]

      others : (j : ℕ) → (IsLost T l j → j ≤ slice_index new (suc i)) → slice_index (slice_set new (suc i) entry) j ≡ slice_index old j
      others j below = elim (cases_eq j (suc i)) [
        | inl same ↦ absurd (omega (arith, same, down, last-by_now T l i, below (subst (IsLost T l) (sym same) here)))
        | inr other ↦ get_or-set_other new (suc i) j entry 0 other ∙ w.others j (λ lost. omega (arith, below lost, down, last-by_now T l i))
      ]

  -- the lost stores that come after what it leads to are those from it on
  pub walk-after : (new : List ℕ) (number : ℕ) → row.safe < number → IsWalking T l old new number → (j : ℕ) → IsLost T l j → slice_index new number < j → number ≤ j
  walk-after new zero above w j lost later = omega arith
  walk-after new (suc i) above w j lost later = elim (cases_lt j (suc i)) [
    | inl low ↦ absurd (omega (arith, later, leads new i above w, last-greatest T l i j lost.what lost.is_store (omega (arith, low))))
    | inr from ↦ from
  ]

  pub all-after : (number before : ℕ) → number ≤ row.safe → ((j : ℕ) → IsLost T l j → number < j → before < j) → IsLineLostAfter T l before
  all-after number before done after j lost = after j lost (omega (arith, done, safe-is, lost.later))

  pub walk-ends : (new : List ℕ) (number : ℕ) → number ≤ row.safe → IsWalking T l old new number → IsLineMarked T l old new
  walk-ends new number done w = record { many = w.many; own = λ j lost. w.own j lost (omega (arith, done, safe-is, lost.later)); others = λ j none. w.others j (λ lost. absurd (none lost)) }
