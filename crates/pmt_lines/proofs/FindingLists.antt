-- Lists of findings in report order.
use Rattle.std.proofs.Common.{◌≡◌, ℕ, ◌⊎◌, inl, inr, Bool, true, false, List, [], ◌∷◌, ◌++◌, refl, ap}
use Rattle.pmt_laws.specs.Prelude.{Finding, Overwritten, IsRising, Has, IsReportedBefore, InReportOrder, HasFinding}
use Rattle.pmt_lines.specs.Jobs.{overwritten_by, found_if}

-- what two lists together have
pub has-append : (xs ys : List Finding) (f : Finding) → HasFinding (xs ++ ys) f → HasFinding xs f ⊎ HasFinding ys f
has-append [] ys f has = inr has
has-append (x ∷ xs) ys f (inl e) = inl (inl e)
has-append (x ∷ xs) ys f (inr has) = elim (has-append xs ys f has) [ inl h ↦ inl (inr h) | inr h ↦ inr h ]

pub has-left : (xs ys : List Finding) (f : Finding) → HasFinding xs f → HasFinding (xs ++ ys) f
has-left [] ys f none = absurd none
has-left (x ∷ xs) ys f (inl e) = inl e
has-left (x ∷ xs) ys f (inr has) = inr (has-left xs ys f has)

pub has-right : (xs ys : List Finding) (f : Finding) → HasFinding ys f → HasFinding (xs ++ ys) f
has-right [] ys f has = has
has-right (x ∷ xs) ys f has = inr (has-right xs ys f has)

-- two lists in report order, the one before the other
pub ordered-append : (xs ys : List Finding) → InReportOrder xs → InReportOrder ys → ((x y : Finding) → HasFinding xs x → HasFinding ys y → IsReportedBefore x y) → InReportOrder (xs ++ ys)
ordered-append [] ys first second before = second
ordered-append (x ∷ []) [] first second before = tt
ordered-append (x ∷ []) (y ∷ ys) first second before = (before x y (inl refl) (inl refl), second)
ordered-append (x ∷ z ∷ xs) ys first second before = (first.0, ordered-append (z ∷ xs) ys first.1 second (λ a b h g. before a b (inr h) g))

-- the overwritten findings of one store
pub has-overwritten : (i : ℕ) (js : List ℕ) (f : Finding) → HasFinding (overwritten_by i js) f → (j : ℕ) × Has js j × (Overwritten j i ≡ f)
has-overwritten i [] f none = absurd none
has-overwritten i (j ∷ js) f (inl e) = (j, inl refl, e)
has-overwritten i (j ∷ js) f (inr has) = let x = has-overwritten i js f has in (x.0, inr x.1, x.2)

pub overwritten-has : (i : ℕ) (js : List ℕ) (j : ℕ) → Has js j → HasFinding (overwritten_by i js) (Overwritten j i)
overwritten-has i [] j none = absurd none
overwritten-has i (k ∷ js) j (inl e) = inl (ap (λ m. Overwritten m i) e)
overwritten-has i (k ∷ js) j (inr has) = inr (overwritten-has i js j has)

pub overwritten-ordered : (i low : ℕ) (js : List ℕ) → IsRising low js → InReportOrder (overwritten_by i js)
overwritten-ordered i low [] rising = tt
overwritten-ordered i low (j ∷ []) rising = tt
overwritten-ordered i low (j ∷ k ∷ js) rising = (inr (refl, rising.1.0), overwritten-ordered i j (k ∷ js) rising.1)

-- a finding that is there if a test holds
pub has-if : (b : Bool) (g f : Finding) → HasFinding (found_if b g) f → (b ≡ true) × (g ≡ f)
has-if true g f (inl e) = (refl, e)
has-if true g f (inr none) = absurd none
has-if false g f none = absurd none

pub if-has : (b : Bool) (g : Finding) → b ≡ true → HasFinding (found_if b g) g
if-has true g e = inl refl
if-has false g e = let no : ⊥ = cc in absurd no

pub if-ordered : (b : Bool) (g : Finding) → InReportOrder (found_if b g)
if-ordered true g = tt
if-ordered false g = tt
