-- The front of a line at a place, from its raises.
use Rattle.std.proofs.Common.{◌≡◌, ℕ, zero, suc, ◌<◌, ◌≤◌, List, [], ◌∷◌, length, get_or, refl, ◌∙◌, arith}
use Rattle.pmt_laws.specs.Prelude.{Recording, front_at}
use Rattle.pmt_lines.specs.Jobs.{Raise, RaisesBetween}

abbrev pub no_raise : Raise
no_raise = (0, 0)

-- the front after so many of the raises
abbrev pub front_after : ℕ → List Raise → ℕ → ℕ
front_after first raises zero = first
front_after first raises (suc i) = (get_or raises i no_raise).1

-- the places of the raises rise
pub places-rise : (T : Recording) (l low high : ℕ) (raises : List Raise) → RaisesBetween T l low high raises → (j k : ℕ) → j ≤ k → k < length raises → (get_or raises j no_raise).0 ≤ (get_or raises k no_raise).0
places-rise T l low high [] r j k h within = absurd (omega arith)
places-rise T l low high (x ∷ raises) r zero zero h within = omega arith
places-rise T l low high (x ∷ raises) r zero (suc k) h within = above-first T l x.0 high raises r.4 k (omega arith)
  where
    above-first : (T' : Recording) (l' low' high' : ℕ) (rest : List Raise) → RaisesBetween T' l' low' high' rest → (n : ℕ) → n < length rest → low' ≤ (get_or rest n no_raise).0
    above-first T' l' low' high' [] s n m = absurd (omega arith)
    above-first T' l' low' high' (y ∷ rest) s zero m = omega (arith, s.0)
    above-first T' l' low' high' (y ∷ rest) s (suc n) m = omega (arith, s.0, above-first T' l' y.0 high' rest s.4 n (omega arith))
places-rise T l low high (x ∷ raises) r (suc j) zero h within = absurd (omega arith)
places-rise T l low high (x ∷ raises) r (suc j) (suc k) h within = places-rise T l x.0 high raises r.4 j k (omega arith) (omega arith)

-- the front at a place, from the number of raises by then
pub front-raised :
    (T : Recording) (l low high n i : ℕ) (raises : List Raise) → RaisesBetween T l low high raises → low ≤ n → n ≤ high → i ≤ length raises →
    ((k : ℕ) → k < i → (get_or raises k no_raise).0 ≤ n) → ((k : ℕ) → i ≤ k → k < length raises → n < (get_or raises k no_raise).0) →
    front_at T l n ≡ front_after (front_at T l low) raises i
front-raised T l low high n zero [] r above below within by_now later = r.1 n above below
front-raised T l low high n (suc i) [] r above below within by_now later = absurd (omega arith)
front-raised T l low high n zero (x ∷ raises) r above below within by_now later = r.1 n above (later 0 (omega arith) (omega arith))
front-raised T l low high n (suc i) (x ∷ raises) r above below within by_now later =
    front-raised T l x.0 high n i raises r.4 (by_now 0 (omega arith)) below (omega arith) (λ k h. by_now (suc k) (omega arith)) (λ k h m. later (suc k) (omega arith) (omega arith))
    ∙ go i
  where
    go : (j : ℕ) → front_after (front_at T l x.0) raises j ≡ (get_or (x ∷ raises) j no_raise).1
    go zero = r.3
    go (suc j) = refl
