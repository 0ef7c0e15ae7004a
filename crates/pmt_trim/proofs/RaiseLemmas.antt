-- The raises of a line, from the last one back.
use Rattle.std.proofs.Common.{◌≡◌, ◌≢◌, ℕ, suc, ◌<◌, ◌≤◌, ◌⊎◌, inl, inr, List, [], ◌∷◌, ◌++◌, refl, sym, ap, ◌∙◌, arith}
use Rattle.std.proofs.lemmas.Bool.{cases_lt}
use Rattle.pmt_laws.specs.Prelude.{Recording, front_at}
use Rattle.pmt_lines.specs.Jobs.{Raise, RaisesBetween}
use Rattle.pmt_trim.specs.Kept.{LastIsElsewhere}

-- they lie between two places in order
raises-order : (T : Recording) (l low high : ℕ) (raises : List Raise) → RaisesBetween T l low high raises → low ≤ high
raises-order T l low high [] r = r.0
raises-order T l low high (x ∷ raises) r = let h = raises-order T l x.0 high raises r.4 in omega (arith, r.0, h)

-- none lies where the front stays to the end
pub raises-before : (T : Recording) (l low middle high : ℕ) (raises : List Raise) → RaisesBetween T l low high raises → low ≤ middle → middle ≤ high →
    ((n : ℕ) → middle ≤ n → n ≤ high → front_at T l n ≡ front_at T l middle) → RaisesBetween T l low middle raises
raises-before T l low middle high [] r h g stays = (h, λ n a b. r.1 n a (omega arith))
raises-before T l low middle high (x ∷ raises) r h g stays =
    let within = raises-order T l x.0 high raises r.4 in
    (r.0, r.1, r.2, r.3, raises-before T l x.0 middle high raises r.4 (go within (cases_lt middle x.0)) g stays)
  where
    go : x.0 ≤ high → (middle < x.0) ⊎ (x.0 ≤ middle) → x.0 ≤ middle
    go within (inl past) =
        let same : front_at T l middle ≡ front_at T l low = r.1 middle h past in
        let stay : front_at T l x.0 ≡ front_at T l middle = stays x.0 (omega arith) within in
        absurd (omega (arith, r.2, r.3))
    go within (inr there) = there

-- where the last one is at the end, the front changes there
pub raises-last : (T : Recording) (l low n : ℕ) (before : List Raise) (x : Raise) → RaisesBetween T l low (suc n) (before ++ x ∷ []) → x.0 ≡ suc n →
    RaisesBetween T l low n before × (front_at T l (suc n) ≢ front_at T l n)
raises-last T l low n [] x r is = (
  (omega (arith, r.0), λ k a b. r.1 k a (omega arith)),
  λ same.
      let end : front_at T l (suc n) ≡ x.1 = ap (front_at T l) (sym is) ∙ r.3 in
      let start : front_at T l n ≡ front_at T l low = r.1 n (omega (arith, r.0)) (omega arith) in
      omega (arith, r.2),
)
raises-last T l low n (y ∷ before) x r is =
    let rest = raises-last T l y.0 n before x r.4 is in ((r.0, r.1, r.2, r.3, rest.0), rest.1)

-- where the last one is elsewhere, the front stays at the end
pub raises-elsewhere : (T : Recording) (l low n : ℕ) (raises : List Raise) → RaisesBetween T l low (suc n) raises → low ≤ n → LastIsElsewhere raises (suc n) →
    front_at T l (suc n) ≡ front_at T l n
raises-elsewhere T l low n [] r h elsewhere = r.1 (suc n) (omega arith) (omega arith) ∙ sym (r.1 n h (omega arith))
raises-elsewhere T l low n (x ∷ raises) r h elsewhere =
    go raises r elsewhere (λ more. raises-elsewhere T l x.0 n raises r.4 more (λ before y e. elsewhere (x ∷ before) y (ap (λ ys. x ∷ ys) e))) (cases_lt n x.0)
  where
    go : (raises : List Raise) → RaisesBetween T l low (suc n) (x ∷ raises) → LastIsElsewhere (x ∷ raises) (suc n) → (x.0 ≤ n → front_at T l (suc n) ≡ front_at T l n) →
        (n < x.0) ⊎ (x.0 ≤ n) → front_at T l (suc n) ≡ front_at T l n
    go raises r elsewhere earlier (inr more) = earlier more
    go [] r elsewhere earlier (inl at) = absurd (elsewhere [] x refl (omega (arith, raises-order T l x.0 (suc n) [] r.4)))
    go (y ∷ raises) r elsewhere earlier (inl at) = absurd (omega (arith, r.4.0, raises-order T l y.0 (suc n) raises r.4.4))
