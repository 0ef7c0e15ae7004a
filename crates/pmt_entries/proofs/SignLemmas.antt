-- The first of the hints that are signs of a site.
use Rattle.std.proofs.Common.{◌≡◌, ℕ, ◌+◌, ◌<◌, Bool, true, false, List, [], ◌∷◌, length, drop, get_or, Option, None, Some, refl, sym, ap, subst, ◌∙◌, arith}
use Rattle.std.specs.Prelude.{◌||◌, cond, if◌then◌else◌}
use Rattle.pmt_laws.specs.Prelude.{position_from, Recording}
use Rattle.std.proofs.lemmas.Bool.{le-ltb, lt-ltb}
use Rattle.std.proofs.lemmas.Iterator.Adapters.{position_from-zero}
use Rattle.std.proofs.lemmas.List.{drop_all, drop_more}
use Rattle.pmt_entries.specs.Prelude.{Origin, Hint}
use Rattle.pmt_entries.specs.declared.signs.Mark.{Mark}
use Rattle.pmt_entries.specs.declared.signs.Mark.TheVariants.{Place}
use Rattle.pmt_entries.specs.Sites.{Signs, earlier, is_mark, is_sign, line_mark, mark_of, sign_at, sign_in}

-- one item before the rest of a list
pub position-before : {X : Type 0} (p : X → Bool) (xs : List X) (i : ℕ) (d : X) (o : Option ℕ) → i < length xs → o ≡ position_from p (i + 1) (drop (i + 1) xs) → (if p (get_or xs i d) then Some i else o) ≡ position_from p i (drop i xs)
position-before p xs i d o within rest =
    ap (λ r. cond (p (get_or xs i d)) (Some i) r) rest ∙ ap (position_from p i) (sym (drop_more xs i d within))

position-none : {X : Type 0} (i : ℕ) (xs : List X) → position_from (λ (x : X). false) i xs ≡ None
position-none i [] = refl
position-none i (x ∷ xs) = position-none (i + 1) xs

-- an index before all those of a list
before-rest : {X : Type 0} (q : X → Bool) (i k : ℕ) (xs : List X) → i < k → earlier (Some i) (position_from q k xs) ≡ Some i
before-rest q i k [] below = refl
before-rest q i k (x ∷ xs) below = go (q x) (before-rest q i (k + 1) xs (omega (arith, below)))
  where
    go : (b : Bool) → earlier (Some i) (position_from q (k + 1) xs) ≡ Some i → earlier (Some i) (cond b (Some k) (position_from q (k + 1) xs)) ≡ Some i
    go true rest = rw (lt-ltb i k below) refl
    go false rest = rest

rest-after : {X : Type 0} (p : X → Bool) (i k : ℕ) (xs : List X) → i < k → earlier (position_from p k xs) (Some i) ≡ Some i
rest-after p i k [] below = refl
rest-after p i k (x ∷ xs) below = go (p x) (rest-after p i (k + 1) xs (omega (arith, below)))
  where
    go : (b : Bool) → earlier (position_from p (k + 1) xs) (Some i) ≡ Some i → earlier (cond b (Some k) (position_from p (k + 1) xs)) (Some i) ≡ Some i
    go true rest = rw (le-ltb k i (omega (arith, below))) refl
    go false rest = rest

-- the first of both is the first of either
position-either : {X : Type 0} (p q : X → Bool) (i : ℕ) (xs : List X) → earlier (position_from p i xs) (position_from q i xs) ≡ position_from (λ (x : X). p x || q x) i xs
position-either p q i [] = refl
position-either {X = X} p q i (x ∷ xs) = go (p x) (q x) (position-either p q (i + 1) xs)
  where
    either : Option ℕ
    either = position_from (λ (y : X). p y || q y) (i + 1) xs

    go : (a b : Bool) → earlier (position_from p (i + 1) xs) (position_from q (i + 1) xs) ≡ either → earlier (cond a (Some i) (position_from p (i + 1) xs)) (cond b (Some i) (position_from q (i + 1) xs)) ≡ cond (a || b) (Some i) either
    go true true rest = rw (le-ltb i i (omega arith)) refl
    go true false rest = before-rest q i (i + 1) xs (omega arith)
    go false true rest = rest-after p i (i + 1) xs (omega arith)
    go false false rest = rest

-- the first hint with each mark
abbrev pub AreSigns : Recording → List ℕ → List Hint → Signs → Type 0
AreSigns T fences hints signs = (m : Mark) → sign_at signs (Some m) ≡ position_from (λ (h : Hint). is_mark (Some m) (mark_of T fences h)) 0 hints

sign-at : (T : Recording) (fences : List ℕ) (hints : List Hint) (signs : Signs) (m : Option Mark) → AreSigns T fences hints signs → sign_at signs m ≡ position_from (λ (h : Hint). is_mark m (mark_of T fences h)) 0 hints
sign-at T fences hints signs None x = sym (position-none 0 hints)
sign-at T fences hints signs (Some m) x = x m

pub sign-same : (T : Recording) (fences : List ℕ) (hints : List Hint) (signs : Signs) (p : Origin) (first : ℕ) → AreSigns T fences hints signs →
    earlier (sign_at signs (Some (Place p))) (sign_at signs (line_mark T fences first)) ≡ sign_in T fences hints p first
sign-same T fences hints signs p first x =
    let line = line_mark T fences first in
    ap (λ o. earlier o (sign_at signs line)) (x (Place p))
    ∙ ap (earlier (position_from (λ (h : Hint). is_mark (Some (Place p)) (mark_of T fences h)) 0 hints)) (sign-at T fences hints signs line x)
    ∙ position-either (λ (h : Hint). is_mark (Some (Place p)) (mark_of T fences h)) (λ (h : Hint). is_mark line (mark_of T fences h)) 0 hints
    ∙ sym (position_from-zero (is_sign T fences p first) hints)

-- one hint before the rest
pub sign-before : (T : Recording) (fences : List ℕ) (hints : List Hint) (index i number : ℕ) (d hint : Hint) (m : Mark) (mark : Option Mark) (old new : Option ℕ) → index ≡ i + 1 → i < length hints → hint ≡ get_or hints i d → number ≡ i →
    mark ≡ mark_of T fences hint → new ≡ (if is_mark (Some m) mark then Some number else old) → old ≡ position_from (λ (h : Hint). is_mark (Some m) (mark_of T fences h)) index (drop index hints) →
    new ≡ position_from (λ (h : Hint). is_mark (Some m) (mark_of T fences h)) i (drop i hints)
sign-before T fences hints index i number d hint m mark old new one within is same own made rest =
    let p : Hint → Bool = λ h. is_mark (Some m) (mark_of T fences h) in
    made ∙ ap (λ k. if is_mark (Some m) mark then Some k else old) same ∙ ap (λ b. if is_mark (Some m) b then Some i else old) (own ∙ ap (mark_of T fences) is)
    ∙ position-before p hints i d old within (subst (λ k. old ≡ position_from p k (drop k hints)) one rest)

-- no hint yet
pub signs-none : {X : Type 0} (p : X → Bool) (xs : List X) (o : Option ℕ) → o ≡ None → o ≡ position_from p (length xs) (drop (length xs) xs)
signs-none p xs o none = none ∙ ap (position_from p (length xs)) (sym (drop_all (length xs) xs (omega arith)))
