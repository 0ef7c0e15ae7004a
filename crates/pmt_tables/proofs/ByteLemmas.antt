-- What is the newest or the least of the last stores to bytes, one byte more.
use Rattle.std.proofs.Common.{◌≡◌, ℕ, zero, suc, ◌<◌, ◌≤◌, ◌⊎◌, inl, inr, Bool, true, false, List, refl, sym, ◌∙◌, arith}
use Rattle.std.specs.Prelude.{if◌then◌else◌, slice_index}
use Rattle.std.proofs.lemmas.Bool.{cases_lt, cases_eq}
use Rattle.std.proofs.lemmas.Bool.Decides.{nat_tests}
use Rattle.pmt_tables.specs.Lasts.{is_in, IsLastTo, IsNewest, IsLeastAbove, number_of, low_of, high_of, last_by, IsWhole}

-- ---- Bytes of a range

pub last-same : (low high : ℕ) (f g : ℕ → ℕ) (j : ℕ) → ((k : ℕ) → low ≤ k → k < high → f k ≡ g k) → IsLastTo low high f j → IsLastTo low high g j
last-same low high f g j same x = (x.0, x.1, x.2, sym (same x.0 x.1 x.2) ∙ x.3)

pub newest-same : (low high : ℕ) (f g : ℕ → ℕ) (r : ℕ) → ((k : ℕ) → low ≤ k → k < high → f k ≡ g k) → IsNewest low high f r → IsNewest low high g r
newest-same low high f g r same it = record {
  reached = elim it.reached [ inl none ↦ inl none | inr x ↦ inr (last-same low high f g r same x) ];
  greatest = λ k from to. omega (arith, it.greatest k from to, same k from to);
}

pub least-same : (above low high : ℕ) (f g : ℕ → ℕ) (r : ℕ) → ((k : ℕ) → low ≤ k → k < high → f k ≡ g k) → IsLeastAbove above low high f r → IsLeastAbove above low high g r
least-same above low high f g r same it = record {
  reached = elim it.reached [ inl none ↦ inl none | inr x ↦ inr (x.0, last-same low high f g r same x.1) ];
  least = λ k from to more.
      let x = it.least k from to (omega (arith, more, same k from to)) in (x.0, omega (arith, x.1, same k from to));
}

-- ---- One byte more

-- ---- A word without a table

pub whole-newest : (w low high : ℕ) → IsWhole w → low < high_of w → low_of w < high → low < high → IsNewest low high (last_by w) (number_of w)
whole-newest w low high it before after some = record {
  reached = elim it.some [
    | inr none ↦ inl none
    | inl bytes ↦ inr (meets bytes)
  ];
  greatest = λ k from to. at (is_in (low_of w) (high_of w) k);
}
  where
    at : (b : Bool) → (if b then number_of w else 0) ≤ number_of w
    at true = omega arith
    at false = omega arith

    meets : low_of w < high_of w → IsLastTo low high (last_by w) (number_of w)
    meets bytes = elim (cases_lt low (low_of w)) [
      | inl less ↦ (low_of w, omega arith, after, written w (low_of w) (omega arith) bytes)
      | inr more ↦ (low, omega arith, omega (arith, after, more, some, before), written w low more before)
    ]
      where
        written : (w k : ℕ) → low_of w ≤ k → k < high_of w → last_by w k ≡ number_of w
        written w k from to = grind (arith, nat_tests, from, to)

-- a number in a range of bytes is the least above 0
pub whole-oldest : (w low high : ℕ) → IsWhole w → low < high_of w → low_of w < high → low < high → IsLeastAbove 0 low high (last_by w) (number_of w)
whole-oldest w low high it before after some = record {
  reached = elim (whole-newest w low high it before after some).reached [
    | inl none ↦ inl none
    | inr x ↦ positive x (cases_eq (number_of w) 0)
  ];
  least = λ k from to more. at (is_in (low_of w) (high_of w) k) more;
}
  where
    positive : IsLastTo low high (last_by w) (number_of w) → (number_of w ≡ 0) ⊎ (number_of w ≡ 0 → ⊥) → (number_of w ≡ 0) ⊎ ((0 < number_of w) × IsLastTo low high (last_by w) (number_of w))
    positive x (inl none) = inl none
    positive x (inr some_) = inr (zero-or_more (number_of w) some_, x)
      where
        zero-or_more : (n : ℕ) → (n ≡ 0 → ⊥) → 0 < n
        zero-or_more zero h = absurd (h refl)
        zero-or_more (suc n) h = omega arith

    at : (b : Bool) → 0 < (if b then number_of w else 0) → (0 < number_of w) × (number_of w ≤ (if b then number_of w else 0))
    at true more = (more, omega arith)
    at false more = absurd (omega (arith, more))

-- so it is in all bytes of a word
pub whole-all : (w : ℕ) → IsWhole w → IsLeastAbove 0 0 8 (last_by w) (number_of w)
whole-all w it = elim it.some [
  | inl bytes ↦ whole-oldest w 0 8 it (omega (arith, bytes)) (omega (arith, bytes, it.eight)) (omega arith)
  | inr none ↦ record { reached = inl none; least = λ k from to more. absurd (at (is_in (low_of w) (high_of w) k) none more) }
]
  where
    at : (b : Bool) → number_of w ≡ 0 → 0 < (if b then number_of w else 0) → ⊥
    at true none more = omega (arith, none, more)
    at false none more = omega (arith, more)

-- ---- Bytes that are written

-- the bytes from low up to high have this number
abbrev pub IsWrittenTo : ℕ → ℕ → ℕ → List ℕ → List ℕ → Type 0
IsWrittenTo low high number old new = (k : ℕ) → k < 8 → slice_index new k ≡ (if is_in low high k then number else slice_index old k)
