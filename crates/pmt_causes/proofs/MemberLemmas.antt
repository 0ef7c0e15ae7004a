-- What holds of all elements.
use Rattle.std.proofs.Common.{ℕ, zero, suc, ◌<◌, inl, inr, List, [], ◌∷◌, length, map, sym, subst, arith}
use Rattle.std.specs.List.{All, AllByRecursion, slice_index_or}
use Rattle.pmt_explain.specs.Grouping.{Picks}

pub to-each : {X : Type 0} (P : X → Type 0) (xs : List X) → All P xs → AllByRecursion P xs
to-each P [] h = tt
to-each P (x ∷ xs) h = (h 0 x (omega arith), to-each P xs (λ k d within. h (suc k) d (omega (arith, within))))

pub from-each : {X : Type 0} (P : X → Type 0) (xs : List X) → AllByRecursion P xs → (k : ℕ) (d : X) → k < length xs → P (slice_index_or xs k d)
from-each P [] h k d within = absurd (omega (arith, within))
from-each P (x ∷ xs) h zero d within = h.0
from-each P (x ∷ xs) h (suc k) d within = from-each P xs h.1 k d (omega (arith, within))

pub each-map : {X Y : Type 0} (f : X → Y) (P : Y → Type 0) (xs : List X) → AllByRecursion (λ x. P (f x)) xs → AllByRecursion P (map f xs)
each-map f P [] h = tt
each-map f P (x ∷ xs) h = (h.0, each-map f P xs h.1)

pub picks-each : {X : Type 0} (P Q : X → Type 0) (xs ys : List X) → Picks Q xs ys → AllByRecursion P xs → AllByRecursion P ys
picks-each P Q [] ys none h = subst (AllByRecursion P) (sym none) tt
picks-each P Q (x ∷ xs) ys (inl (own, (zs, is, rest))) h = subst (AllByRecursion P) (sym is) (h.0, picks-each P Q xs zs rest h.1)
picks-each P Q (x ∷ xs) ys (inr (other, rest)) h = picks-each P Q xs ys rest h.1
