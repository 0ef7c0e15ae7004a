-- Texts that are pushed piece by piece.
use Rattle.pmt_page.proofs.Prelude.{◌≡◌, ℕ, ◌+◌, ◌<◌, ◌≤◌, List, [], ◌∷◌, ◌++◌, length, map, get_or, drop, drop-cons, add-one, Result, Ok, Err, OnOk, refl, sym, ap, subst, ◌∙◌, append-nil, append_assoc, drop_all, flat_map, if◌then◌else◌}
use Rattle.std.specs.Result.{is_ok}

-- A piece behind what there is.
pub more : (s t a b : List ℕ) → s ≡ a → t ≡ s ++ b → t ≡ a ++ b
more s t a b e f = f ∙ ap (λ (x : List ℕ). x ++ b) e

-- A piece behind those that were pushed on a text.
pub push-on : (s t u a b : List ℕ) → t ≡ s ++ a → u ≡ t ++ b → u ≡ s ++ (a ++ b)
push-on s t u a b e f = f ∙ ap (λ (x : List ℕ). x ++ b) e ∙ append_assoc s a b

-- Words and a field behind those.
pub push-field : (s t u a w f : List ℕ) → t ≡ s ++ a → u ≡ t ++ w ++ f → u ≡ s ++ (a ++ w ++ f)
push-field s t u a w f e g = push-on s (t ++ w) u (a ++ w) f (push-on s t (t ++ w) a w e refl) g

pub two-fields : (s t u w1 f1 w2 f2 : List ℕ) → t ≡ s ++ w1 ++ f1 → u ≡ t ++ w2 ++ f2 → u ≡ s ++ (w1 ++ f1 ++ w2 ++ f2)
two-fields s t u w1 f1 w2 f2 e g = push-field s t u (w1 ++ f1) w2 f2 (e ∙ append_assoc s w1 f1) g

pub three-fields : (s t u v w1 f1 w2 f2 w3 f3 : List ℕ) → t ≡ s ++ w1 ++ f1 → u ≡ t ++ w2 ++ f2 → v ≡ u ++ w3 ++ f3 →
    v ≡ s ++ (w1 ++ f1 ++ w2 ++ f2 ++ w3 ++ f3)
three-fields s t u v w1 f1 w2 f2 w3 f3 e g h = push-field s u v (w1 ++ f1 ++ w2 ++ f2) w3 f3 (two-fields s t u w1 f1 w2 f2 e g) h

-- The last call's answer is handed on.
pub last-on : {A E : Type 0} → (r : Result A E) (s t u a b : List ℕ) → t ≡ s ++ a → OnOk r (u ≡ t ++ b) → OnOk r (u ≡ s ++ (a ++ b))
last-on r s t u a b e o = subst (λ (x : List ℕ). OnOk r (u ≡ x)) (push-on s t (t ++ b) a b e refl) o

pub last-field : {A E : Type 0} → (r : Result A E) (s t u a w f : List ℕ) → t ≡ s ++ a → OnOk r (u ≡ t ++ w ++ f) → OnOk r (u ≡ s ++ (a ++ w ++ f))
last-field r s t u a w f e o = subst (λ (x : List ℕ). OnOk r (u ≡ x)) (push-field s t (t ++ w ++ f) a w f e refl) o

-- A piece that is there, unless memory was refused.
pub if-ok : {A E : Type 0} → (r : Result A E) (t u v : List ℕ) → t ≡ (if is_ok r then u else v) → OnOk r (t ≡ u)
if-ok (Ok x) t u v e = e
if-ok (Err x) t u v e = tt

-- What is spelled of the items that are left, with that of one of them pushed.
pub item-pushed : {A : Type 0} → (F G : List A → List ℕ) (xs : List A) (i : ℕ) (d : A) (piece old new all : List ℕ) →
    i < length xs → ((ys : List A) → F (get_or xs i d ∷ ys) ≡ piece ++ G ys) → old ++ F (drop i xs) ≡ all → new ≡ old ++ piece →
    new ++ G (drop (i + 1) xs) ≡ all
item-pushed F G xs i d piece old new all within parts so-far pushed =
    let rest = drop (i + 1) xs in
    let e : drop i xs ≡ get_or xs i d ∷ rest = rw (add-one) (drop-cons xs i d within) in
    ap (λ (t : List ℕ). t ++ G rest) pushed
    ∙ append_assoc old piece (G rest)
    ∙ ap (λ (t : List ℕ). old ++ t) (sym (ap F e ∙ parts rest))
    ∙ so-far

-- What is spelled of all items, once none is left.
pub items-pushed : {A : Type 0} → (F : List A → List ℕ) (xs : List A) (i : ℕ) (old all : List ℕ) →
    F [] ≡ [] → old ++ F (drop i xs) ≡ all → length xs ≤ i → old ≡ all
items-pushed F xs i old all empty so-far end =
    sym (ap (λ (t : List ℕ). old ++ t) (ap F (drop_all i xs end) ∙ empty) ∙ append-nil old) ∙ so-far

-- A piece for each item.
pub piece-pushed : {A : Type 0} → (f : A → List ℕ) (xs : List A) (i : ℕ) (d : A) (old new all : List ℕ) →
    i < length xs → old ++ flat_map f (drop i xs) ≡ all → new ≡ old ++ f (get_or xs i d) →
    new ++ flat_map f (drop (i + 1) xs) ≡ all
piece-pushed f xs i d old new all within = item-pushed (flat_map f) (flat_map f) xs i d (f (get_or xs i d)) old new all within (λ ys. refl)

pub pieces-pushed : {A : Type 0} → (f : A → List ℕ) (xs : List A) (i : ℕ) (old all : List ℕ) →
    old ++ flat_map f (drop i xs) ≡ all → length xs ≤ i → old ≡ all
pieces-pushed f xs i old all = items-pushed (flat_map f) xs i old all refl

-- A letter for each item.
pub letter-pushed : {A : Type 0} → (f : A → ℕ) (xs : List A) (i : ℕ) (d : A) (old new all : List ℕ) (letter : ℕ) →
    i < length xs → old ++ map f (drop i xs) ≡ all → new ≡ old ++ letter ∷ [] → letter ≡ f (get_or xs i d) →
    new ++ map f (drop (i + 1) xs) ≡ all
letter-pushed f xs i d old new all letter within so-far pushed same =
    item-pushed (map f) (map f) xs i d (f (get_or xs i d) ∷ []) old new all within (λ ys. refl) so-far (pushed ∙ ap (λ (n : ℕ). old ++ n ∷ []) same)

pub letters-pushed : {A : Type 0} → (f : A → ℕ) (xs : List A) (i : ℕ) (old all : List ℕ) →
    old ++ map f (drop i xs) ≡ all → length xs ≤ i → old ≡ all
letters-pushed f xs i old all = items-pushed (map f) xs i old all refl
