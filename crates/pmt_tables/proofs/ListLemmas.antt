-- Elements of a list by their slots.
use Rattle.std.proofs.Common.{◌≡◌, ◌≢◌, ℕ, zero, suc, ◌<◌, ◌⊎◌, inl, inr, Bool, true, false, List, [], ◌∷◌, ◌++◌, length, set, map, Some, None, refl, sym, ap, ◌∙◌, arith}
use Rattle.std.specs.Prelude.{◌==◌, ◌||◌, nat_eq, slice_get}
use Rattle.pmt_laws.specs.Prelude.{list_any, IsDistinct, has_line}
use Rattle.std.proofs.lemmas.Bool.{cases_eq, cases_order, eq-eqb, ne_eqb, eqb-true, or_parts}
use Rattle.std.proofs.lemmas.Bool.Decides.{Decides-eqb}
use Rattle.std.proofs.lemmas.Map.Made.{AllPairs-from_IsDistinct}
use Rattle.std.proofs.lemmas.Option.{get_or_from_slice_get, slice_get_within, same_Some}
use Rattle.pmt_tables.specs.Slots.{IsFound}

-- no element of a list without doubles has two slots
pub one-slot : (xs : List ℕ) (x p q : ℕ) → IsDistinct nat_eq xs → slice_get xs p ≡ Some x → slice_get xs q ≡ Some x → p ≡ q
one-slot xs x p q distinct at_p at_q = go (cases_order p q)
  where
    differ : (i j : ℕ) → i < j → slice_get xs i ≡ Some x → slice_get xs j ≡ Some x → ⊥
    differ i j before at_i at_j =
        AllPairs-from_IsDistinct Decides-eqb xs distinct i j 0 before (slice_get_within xs j x at_j) (get_or_from_slice_get xs i x 0 at_i ∙ sym (get_or_from_slice_get xs j x 0 at_j))

    go : (p ≡ q) ⊎ ((p < q) ⊎ (q < p)) → p ≡ q
    go (inl same) = same
    go (inr (inl before)) = absurd (differ p q before at_p at_q)
    go (inr (inr after)) = absurd (differ q p after at_q at_p)

-- an element that has a slot is one of the list
pub among : (xs : List ℕ) (x p : ℕ) → slice_get xs p ≡ Some x → list_any (nat_eq x) xs ≡ true
among [] x p at = absurd (cc)
among (y ∷ xs) x zero at = let e : nat_eq x y ≡ true = eq-eqb x y (sym (same_Some y x at)) in rw e refl
among (y ∷ xs) x (suc p) at = go (nat_eq x y) (among xs x p at)
  where
    go : (b : Bool) → list_any (nat_eq x) xs ≡ true → (b || list_any (nat_eq x) xs) ≡ true
    go true later = refl
    go false later = later

pub list_any-slot : (xs : List ℕ) (x : ℕ) → list_any (nat_eq x) xs ≡ true → (p : ℕ) × (slice_get xs p ≡ Some x)
list_any-slot [] x had = let never : false ≡ true = had in absurd (cc)
list_any-slot (y ∷ xs) x had = go (nat_eq x y) refl had (list_any-slot xs x)
  where
    go : (b : Bool) → nat_eq x y ≡ b → (b || list_any (nat_eq x) xs) ≡ true → (list_any (nat_eq x) xs ≡ true → (p : ℕ) × (slice_get xs p ≡ Some x)) → (p : ℕ) × (slice_get (y ∷ xs) p ≡ Some x)
    go true same had rest = (zero, ap Some (sym (eqb-true x y same)))
    go false other had rest = let later = rest had in (suc later.0, later.1)

-- a line that is found nowhere is none of the lines
pub not-among : (lines : List ℕ) (l : ℕ) → IsFound l lines None → list_any (nat_eq l) lines ≡ false
not-among lines l none = go (list_any (nat_eq l) lines) refl
  where
    go : (b : Bool) → list_any (nat_eq l) lines ≡ b → b ≡ false
    go true had = let there = list_any-slot lines l had in absurd (none there.0 there.1)
    go false absent = refl

-- one more element

pub get-left : {X : Type 0} (xs ys : List X) (p : ℕ) (x : X) → slice_get xs p ≡ Some x → slice_get (xs ++ ys) p ≡ Some x
get-left [] ys p x at = absurd (cc)
get-left (y ∷ xs) ys zero x at = at
get-left (y ∷ xs) ys (suc p) x at = get-left xs ys p x at

pub push-cases : {X : Type 0} (xs : List X) (x y : X) (p : ℕ) → slice_get (xs ++ x ∷ []) p ≡ Some y → (slice_get xs p ≡ Some y) ⊎ ((p ≡ length xs) × (x ≡ y))
push-cases [] x y zero at = inr (refl, same_Some x y at)
push-cases [] x y (suc p) at = absurd (cc)
push-cases (z ∷ xs) x y zero at = inl at
push-cases (z ∷ xs) x y (suc p) at = go (push-cases xs x y p at)
  where
    go : (slice_get xs p ≡ Some y) ⊎ ((p ≡ length xs) × (x ≡ y)) → (slice_get xs p ≡ Some y) ⊎ ((suc p ≡ suc (length xs)) × (x ≡ y))
    go (inl before) = inl before
    go (inr last) = inr (ap suc last.0, last.1)

-- a map over elements that has one of them changed

pub map-same : {X : Type 0} (f g : ℕ → X) (ks : List ℕ) → ((p k : ℕ) → slice_get ks p ≡ Some k → g k ≡ f k) → map g ks ≡ map f ks
map-same f g [] same = refl
map-same f g (k ∷ ks) same = ap (λ x. x ∷ map g ks) (same 0 k refl) ∙ ap (λ xs. f k ∷ xs) (map-same f g ks (λ p j at. same (suc p) j at))

pub map-set_one : {X : Type 0} (f g : ℕ → X) (ks : List ℕ) (l p : ℕ) → IsDistinct nat_eq ks → slice_get ks p ≡ Some l → ((k : ℕ) → k ≢ l → g k ≡ f k) → map g ks ≡ set (map f ks) p (g l)
map-set_one f g ks l p once at other = go ks p at (λ q there. one-slot ks l q p once there at)
  where
    go : (js : List ℕ) (p : ℕ) → slice_get js p ≡ Some l → ((q : ℕ) → slice_get js q ≡ Some l → q ≡ p) → map g js ≡ set (map f js) p (g l)
    go [] p at alone = absurd (cc)
    go (j ∷ js) zero at alone =
        ap (λ k. g k ∷ map g js) (same_Some j l at)
        ∙ ap (λ xs. g l ∷ xs) (map-same f g js (λ q k there. other k (λ e. absurd (omega (arith, alone (suc q) (there ∙ ap Some e))))))
    go (j ∷ js) (suc p) at alone =
        let apart : j ≢ l = λ e. absurd (omega (arith, alone zero (ap Some e))) in
        ap (λ x. x ∷ map g js) (other j apart) ∙ ap (λ xs. f j ∷ xs) (go js p at (λ q there. let e = alone (suc q) there in omega arith))

-- whether an element is one of a list

flip : (a b : ℕ) → nat_eq a b ≡ nat_eq b a
flip a b = go (cases_eq a b)
  where
    go : (a ≡ b) ⊎ (a ≡ b → ⊥) → nat_eq a b ≡ nat_eq b a
    go (inl same) = eq-eqb a b same ∙ sym (eq-eqb b a (sym same))
    go (inr other) = ne_eqb a b other ∙ sym (ne_eqb b a (λ e. other (sym e)))

pub list_any-has_line : (l : ℕ) (ks : List ℕ) → list_any (nat_eq l) ks ≡ has_line l ks
list_any-has_line l [] = refl
list_any-has_line l (k ∷ ks) = ap (λ b. b || list_any (nat_eq l) ks) (flip l k) ∙ ap (λ b. (k == l) || b) (list_any-has_line l ks)

pub has_line-less : (l k : ℕ) (ks : List ℕ) → has_line l (ks ++ k ∷ []) ≡ false → has_line l ks ≡ false
has_line-less l k [] none = refl
has_line-less l k (j ∷ ks) none =
    let parts = or_parts (j == l) (has_line l (ks ++ k ∷ [])) none in
    rw (parts.0) (has_line-less l k ks parts.1)
