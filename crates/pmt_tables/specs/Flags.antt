-- Events that are marked by their numbers.
use Rattle.std.specs.Prelude.{◌≡◌, ℕ, zero, suc, ◌⊎◌, ◌↔◌, Bool, true, false, List, [], ◌∷◌, slice_index_or}
use Rattle.pmt_model.specs.Selections.{Has}

-- Event n is marked, the first one having the number 1.
abbrev pub is_kept_at : List Bool → ℕ → Bool
is_kept_at marked zero = false
is_kept_at marked (suc i) = slice_index_or marked i false

-- The numbers of the events that are marked, the first mark being that of event n + 1.
abbrev pub marked_from : ℕ → List Bool → List ℕ
marked_from n [] = []
marked_from n (true ∷ marked) = suc n ∷ marked_from (suc n) marked
marked_from n (false ∷ marked) = marked_from (suc n) marked

-- These numbers are marked besides.
abbrev pub MarksThese : List Bool → List ℕ → List Bool → Type 0
MarksThese old numbers new = (n : ℕ) → (is_kept_at new n ≡ true) ↔ ((is_kept_at old n ≡ true) ⊎ Has numbers n)
