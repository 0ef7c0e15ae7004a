-- Where the count of a line is above its front, the last store to it is not safe.
use Rattle.std.proofs.Common.{◌≡◌, ℕ, zero, suc, ◌<◌, ◌≤◌, ◌⊎◌, inl, inr, Bool, true, false, ◌∷◌, length, refl, sym, ap, subst, ◌∙◌, arith, eqb-true}
use Rattle.std.specs.Prelude.{if◌then◌else◌, ◌==◌}
use Rattle.pmt_laws.specs.Prelude.{Written, Act, Stores, count, Recording, IsAct, history, count_at, front_at, IsSafe}
use Rattle.pmt_laws.proofs.Histories.{history-act, history-step}
use Rattle.pmt_laws.proofs.SameFronts.{fronts-are-vectors}
use Rattle.pmt_laws.proofs.BoxLemmas.{count-store}

-- The last store to line l among the first n events, which have c stores to it.
pub record IsLastStore (T : Recording) (l n c : ℕ) : Type 0 where
  pub number : ℕ
  pub what : Written
  pub is_store : IsAct T number (Stores l what)
  pub by_now : number ≤ n
  pub stores : count_at T l number ≡ c

-- the last store stays the last one where no other comes
later-store : (T : Recording) (l n c : ℕ) → IsLastStore T l n c → IsLastStore T l (suc n) c
later-store T l n c s = record { number = s.number; what = s.what; is_store = s.is_store; by_now = omega (arith, s.by_now); stores = s.stores }

-- one more store is the last one if it is to the line
store-or-earlier : (T : Recording) (l n k : ℕ) (w : Written) → IsAct T (suc n) (Stores k w) → (0 < count_at T l n → IsLastStore T l n (count_at T l n)) →
    (b : Bool) → (k == l) ≡ b → 0 < (if b then suc (count_at T l n) else count_at T l n) → IsLastStore T l (suc n) (if b then suc (count_at T l n) else count_at T l n)
store-or-earlier T l n k w x earlier true same some =
    let line : k ≡ l = eqb-true k l same in
    let store : IsAct T (suc n) (Stores l w) = subst (λ j. IsAct T (suc n) (Stores j w)) line x in
    record { number = suc n; what = w; is_store = store; by_now = omega arith; stores = ap (count l) (history-act T n (Stores l w) store) ∙ count-store l l w (history T n) refl }
store-or-earlier T l n k w x earlier false same some = later-store T l n (count_at T l n) (earlier some)

-- the last store after one more act
store-by_act : (T : Recording) (l n : ℕ) (a : Act) → IsAct T (suc n) a → (0 < count_at T l n → IsLastStore T l n (count_at T l n)) →
    0 < count l (a ∷ history T n) → IsLastStore T l (suc n) (count l (a ∷ history T n))
store-by_act T l n (Stores k w) x earlier some = store-or-earlier T l n k w x earlier (k == l) refl some
store-by_act T l n a x earlier some = later-store T l n (count_at T l n) (earlier some)

-- where there are stores there is a last one
pub last-store : (T : Recording) (l n : ℕ) → 0 < count_at T l n → IsLastStore T l n (count_at T l n)
last-store T l zero some = absurd (omega (arith, some))
last-store T l (suc n) some = go (history-step T n) (last-store T l n)
  where
    go : ((a : Act) × IsAct T (suc n) a) ⊎ ((length T.events ≤ n) × (history T (suc n) ≡ history T n)) →
        (0 < count_at T l n → IsLastStore T l n (count_at T l n)) → IsLastStore T l (suc n) (count_at T l (suc n))
    go (inl x) earlier =
        let same : history T (suc n) ≡ x.0 ∷ history T n = history-act T n x.0 x.1 in
        subst (λ h. IsLastStore T l (suc n) (count l h)) (sym same) (store-by_act T l n x.0 x.1 earlier (rw same at some))
    go (inr x) earlier = rw x.1 (later-store T l n (count_at T l n) (earlier (rw x.1 at some)))

-- a store of a rank above the front is not safe
pub unsafe-store : (T : Recording) (l n j : ℕ) → front_at T l n < count_at T l j → ¬ IsSafe T l n j
unsafe-store T l n j above safe =
    let least = fronts-are-vectors (history T n) in
    absurd (omega (arith, least.2 l, safe least.0 least.1))
