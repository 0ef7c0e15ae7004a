-- Lists that are made item by item.
use Rattle.std.proofs.Common.{◌≡◌, ℕ, ◌+◌, ◌<◌, List, [], ◌∷◌, ◌++◌, length, take, get_or, sym, ap, ◌∙◌}
use Rattle.std.proofs.lemmas.List.{take_more}

-- one item more
pub list-next : {A : Type 0} (xs old new : List A) (i : ℕ) (d : A) → i < length xs → old ≡ take i xs → new ≡ old ++ get_or xs i d ∷ [] → new ≡ take (i + 1) xs
list-next {A = A} xs old new i d within before pushed = pushed ∙ ap (λ (ys : List A). ys ++ get_or xs i d ∷ []) before ∙ sym (take_more xs i d within)

-- which another one is
pub told-next : {A : Type 0} (xs old new : List A) (i : ℕ) (d x : A) → i < length xs → old ≡ take i xs → new ≡ old ++ x ∷ [] → x ≡ get_or xs i d → new ≡ take (i + 1) xs
told-next {A = A} xs old new i d x within before pushed is = list-next xs old new i d within before (pushed ∙ ap (λ (y : A). old ++ y ∷ []) is)
