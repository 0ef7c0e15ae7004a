-- What a list gives with one more item, or as a whole.
use Rattle.std.proofs.Common.{◌≡◌, ◌≤◌, ◌<◌, ◌+◌, ℕ, take, get_or, sym, List, [], ◌∷◌, ◌++◌, length, Option, None, Some, refl, ap, ◌∙◌, arith}
use Rattle.std.specs.List.{filter_map, cons_option}
use Rattle.std.proofs.lemmas.List.{take_more}

cons-append : {Y : Type 0} (o : Option Y) (ys zs : List Y) → cons_option o (ys ++ zs) ≡ cons_option o ys ++ zs
cons-append None ys zs = refl
cons-append (Some y) ys zs = refl

pub given-none : {X Y : Type 0} (f : X → Option Y) (xs : List X) (x : X) → f x ≡ None → filter_map f (xs ++ x ∷ []) ≡ filter_map f xs
given-none f [] x none = ap (λ o. cons_option o []) none
given-none f (z ∷ xs) x none = ap (λ ys. cons_option (f z) ys) (given-none f xs x none)

pub given-one : {X Y : Type 0} (f : X → Option Y) (xs : List X) (x : X) (y : Y) → f x ≡ Some y → filter_map f (xs ++ x ∷ []) ≡ filter_map f xs ++ y ∷ []
given-one f [] x y one = ap (λ o. cons_option o []) one
given-one f (z ∷ xs) x y one = ap (λ ys. cons_option (f z) ys) (given-one f xs x y one) ∙ cons-append (f z) (filter_map f xs) (y ∷ [])

no-more : {Y : Type 0} (o : Option Y) (ys : List Y) → length (cons_option o ys) ≤ length ys + 1
no-more None ys = omega arith
no-more (Some y) ys = omega arith

pub given-few : {X Y : Type 0} (f : X → Option Y) (xs : List X) → length (filter_map f xs) ≤ length xs
given-few f [] = omega arith
given-few f (x ∷ xs) = omega (arith, given-few f xs, no-more (f x) (filter_map f xs))

pub next-none : {X Y : Type 0} (f : X → Option Y) (xs : List X) (k : ℕ) (d : X) (o : Option Y) → k < length xs → o ≡ f (get_or xs k d) → o ≡ None →
    filter_map f (take (k + 1) xs) ≡ filter_map f (take k xs)
next-none f xs k d o within is none = ap (filter_map f) (take_more xs k d within) ∙ given-none f (take k xs) (get_or xs k d) (sym is ∙ none)

pub next-one : {X Y : Type 0} (f : X → Option Y) (xs : List X) (k : ℕ) (d : X) (o : Option Y) (y : Y) → k < length xs → o ≡ f (get_or xs k d) → o ≡ Some y →
    filter_map f (take (k + 1) xs) ≡ filter_map f (take k xs) ++ y ∷ []
next-one f xs k d o y within is one = ap (filter_map f) (take_more xs k d within) ∙ given-one f (take k xs) (get_or xs k d) y (sym is ∙ one)
