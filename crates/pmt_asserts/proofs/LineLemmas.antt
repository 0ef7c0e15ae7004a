-- What holds of each line of a range, line by line.
use Rattle.std.proofs.Common.{ℕ, ◌+◌, ◌<◌, ◌≤◌, inl, inr, sym, subst, arith}
use Rattle.std.proofs.lemmas.Bool.{cases_eq}

-- Q holds of each line from first on, below `to`.
abbrev pub HoldsBelow : ℕ → ℕ → (ℕ → Type 0) → Type 0
HoldsBelow first to Q = (l : ℕ) → first ≤ l → l < to → Q l

-- no line yet
pub below-none : (first : ℕ) (Q : ℕ → Type 0) → HoldsBelow first first Q
below-none first Q l low high = absurd (omega (arith, low, high))

-- one more line
pub below-more : (first line : ℕ) (Q : ℕ → Type 0) → HoldsBelow first line Q → Q line → HoldsBelow first (line + 1) Q
below-more first line Q before here l low high = elim (cases_eq l line) [ inl same ↦ subst Q (sym same) here | inr other ↦ before l low (omega (arith, other, high)) ]
