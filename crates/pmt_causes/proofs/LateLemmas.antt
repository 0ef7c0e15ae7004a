-- The waits of all events, and the keys of late stores.
use Rattle.std.proofs.Common.{◌≡◌, ◌≢◌, ℕ, zero, suc, ◌<◌, ◌≤◌, ◌⊎◌, inl, inr, true, List, length, get_or, set, get_or-set_same, get_or-set_other, Some, refl, sym, ap, subst, ◌∙◌, arith}
use Rattle.std.specs.Prelude.{Option, slice_get, slice_index}
use Rattle.std.proofs.lemmas.Bool.{cases_eq, eqb-true, false≢true}
use Rattle.std.proofs.lemmas.List.{length-set}
use Rattle.std.proofs.lemmas.Option.{slice_get-get_or, get_or_from_slice_get, slice_get_within}
use Rattle.pmt_laws.specs.Prelude.{Event, Layout, Recording, event}
use Rattle.pmt_causes.specs.declared.grouping.Keyed.{Keyed}
use Rattle.pmt_causes.specs.declared.late.LateSpot.{LateSpot}
use Rattle.pmt_causes.specs.declared.late.LateSpot.TheVariants.{Label, Line}
use Rattle.pmt_causes.specs.contracts.late.LateSpotPartialEq.TheImpl as spot_eq
use Rattle.pmt_causes.specs.Late.{IsWaited, late_items, spot_of, spot_of_event, spot_of_op, with_spot}
use Rattle.pmt_causes.specs.Groups.{label_of}

-- spots that their test takes for the same are the same
pub late-exact : (x y : LateSpot) → (spot_eq.ghosts).eq x y ≡ true → x ≡ y
late-exact (Label a) (Label b) e = ap Label (eqb-true a b e)
late-exact (Label a) (Line l) e = absurd (false≢true e)
late-exact (Line l) (Label b) e = absurd (false≢true e)
late-exact (Line l) (Line m) e = ap Line (eqb-true l m e)

-- one more wait
pub waited-set : (T : Recording) (list : List ℕ) (i k x n : ℕ) → i < length list → IsWaited T (suc i) x →
    ((m q : ℕ) → m < i → slice_get list m ≡ Some q → IsWaited T (suc m) q) → k < suc i → slice_get (set list i x) k ≡ Some n → IsWaited T (suc k) n
waited-set T list i k x n within told before upto is = go (cases_eq k i)
  where
    value : get_or (set list i x) k x ≡ n
    value = get_or_from_slice_get (set list i x) k n x is

    inside : k < length list
    inside = omega (arith, slice_get_within (set list i x) k n is, length-set list i x)

    go : (k ≡ i) ⊎ (k ≢ i) → IsWaited T (suc k) n
    go (inl e) =
        let found : x ≡ n = sym (get_or-set_same list i x x within) ∙ ap (λ j. get_or (set list i x) j x) (sym e) ∙ value in
        subst (λ j. IsWaited T (suc j) n) (sym e) (subst (IsWaited T (suc i)) found told)
    go (inr apart) = before k n (omega arith) (slice_get-get_or list k x inside ∙ ap Some (sym (get_or-set_other list i k x x apart) ∙ value))

-- one more event
pub items-next : (T : Recording) (labels : List (Option ℕ)) (waited : List ℕ) (n number : ℕ) (e : Event) (f : Layout) (x : ℕ) (items new : List (Keyed LateSpot)) → number ≡ suc n → f ≡ T.format →
    slice_get T.events n ≡ Some e → x ≡ slice_index waited n → new ≡ with_spot number (spot_of_op f (label_of labels number) x e.op) items → items ≡ late_items T labels waited n → new ≡ late_items T labels waited (suc n)
items-next T labels waited n number e f x items new same format is value noted before =
    let spot : spot_of T labels waited (suc n) ≡ spot_of_op T.format (label_of labels (suc n)) (slice_index waited n) e.op = rw is refl in
    noted ∙ rw (same, format, value, before) (ap (λ s. with_spot (suc n) s (late_items T labels waited n)) (sym spot))

-- the items of the first events do not see a wait of a later one
pub items-set : (T : Recording) (labels : List (Option ℕ)) (waited : List ℕ) (i x n : ℕ) → n ≤ i → late_items T labels (set waited i x) n ≡ late_items T labels waited n
items-set T labels waited i x zero le = refl
items-set T labels waited i x (suc n) le =
    let read : slice_index (set waited i x) n ≡ slice_index waited n = get_or-set_other waited i n x 0 (λ e. omega (arith, e, le)) in
    ap (λ (m : ℕ). with_spot (suc n) (spot_of_event T.format (label_of labels (suc n)) m (event T (suc n))) (late_items T labels (set waited i x) n)) read
    ∙ ap (λ (items : List (Keyed LateSpot)). with_spot (suc n) (spot_of T labels waited (suc n)) items) (items-set T labels waited i x n (omega arith))
