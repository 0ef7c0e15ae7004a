-- Objects that are made of values by their keys.
use Rattle.std.proofs.Common.{◌≡◌, ℕ, List, [], ◌∷◌, Result, Ok, Err, IfOk, subst}
use Rattle.std.proofs.lemmas.Result.{IfOk-weaker}
use Rattle.std.specs.Borrow.{Bor}
use Rattle.serde_json.specs.Data.{Data, Members, no_members, object, put}
use Rattle.serde_json.specs.View.{view}
use Rattle.serde_json.specs.declared.value.Value.{Value}
use Rattle.pmt_explain_json.specs.Entries.{IsMadeOf}

-- The values of the fields, as far as they were made, are these.
abbrev pub AreMade : {E : Type 0} → List (Bor (List ℕ) × Result Value E) → List Data → Type 0
AreMade [] xs = Unit
AreMade (f ∷ fs) [] = Unit
AreMade (f ∷ fs) (x ∷ xs) = IfOk f.1 (λ v. view v ≡ x) × AreMade fs xs

-- One value more that was made.
infixr 3 ◌also◌
pub ◌also◌ : {A B : Type 0} → A → B → A × B
◌also◌ a b = (a, b)

-- The object has these data by the keys of the fields.
abbrev pub IsObject : {E : Type 0} → List (Bor (List ℕ) × Result Value E) → List Data → Members → Data → Type 0
IsObject [] xs ms d = d ≡ object ms
IsObject (f ∷ fs) [] ms d = IsMadeOf (f ∷ fs) ms d
IsObject (f ∷ fs) (x ∷ xs) ms d = IsObject fs xs (put f.0.now x ms) d

is-object : {E : Type 0} → (fs : List (Bor (List ℕ) × Result Value E)) (xs : List Data) (ms : Members) (d : Data) →
    AreMade fs xs → IsMadeOf fs ms d → IsObject fs xs ms d
is-object [] xs ms d are made = made
is-object (f ∷ fs) [] ms d are made = made
is-object ((k, Ok v) ∷ fs) (x ∷ xs) ms d are made =
    subst (λ (y : Data). IsObject fs xs (put k.now y ms) d) are.0 (is-object fs xs (put k.now (view v) ms) d are.1 made)
is-object ((k, Err e) ∷ fs) (x ∷ xs) ms d are made = absurd made

pub object-made : {E F : Type 0} → (r : Result Value F) (fs gs : List (Bor (List ℕ) × Result Value E)) (xs : List Data) (whole : Data) →
    IfOk r (λ v. IsMadeOf fs no_members (view v)) → fs ≡ gs → AreMade gs xs →
    ((d : Data) → IsObject gs xs no_members d → d ≡ whole) →
    IfOk r (λ v. view v ≡ whole)
object-made r fs gs xs whole made same are tells =
    IfOk-weaker r (λ v. IsMadeOf fs no_members (view v)) (λ v. view v ≡ whole)
    (λ v m. tells (view v) (is-object gs xs no_members (view v) are (subst (λ (hs : List _). IsMadeOf hs no_members (view v)) same m)))
    made
