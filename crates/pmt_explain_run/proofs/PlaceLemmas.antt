-- The place from which a store is safe, as a pass forward finds it and as an explanation tells it.
use Rattle.std.proofs.Common.{◌≡◌, ◌≢◌, ◌⊎◌, ℕ, suc, ◌+◌, ◌-◌, ◌<◌, ◌≤◌, inl, inr, List, length, Option, None, Some, sym, ap, subst, ◌∙◌, arith, get_or, set, get_or-set_same, get_or-set_other}
use Rattle.std.specs.Prelude.{slice_get, unwrap_or}
use Rattle.std.proofs.lemmas.Bool.{cases_lt, cases_eq}
use Rattle.std.proofs.lemmas.List.{length-set}
use Rattle.std.proofs.lemmas.Option.{slice_get-get_or, get_or_from_slice_get, slice_get_within}
use Rattle.pmt_explanation.specs.Prelude.{Stores, Ends, Recording, IsAct, history, count_at, Written, IsSafe, IsPending, past_of, IsSafePlace, TellsSafe}
use Rattle.pmt_laws.proofs.Histories.{act-within, history-step}
use Rattle.pmt_safety.specs.Safety.{IsSafeFrom}
use Rattle.pmt_sweep.specs.Entries.{IsSafePlace as TellsPlace}

-- what no run is without is safe
never-pending : (T : Recording) (l k j : ℕ) → ¬ IsPending T l k j → IsSafe T l k j
never-pending T l k j never s ends = elim (cases_lt (s.persisted l) (count_at T l j)) [
  | inl below ↦ absurd (never (record { end = s; ends = ends; missing = below }))
  | inr above ↦ above
]

-- a store is safe from a place of the trace on
safe-within : (T : Recording) (l j p : ℕ) → IsSafeFrom T l j p → p ≤ past_of T
safe-within T l j p x = elim (cases_lt (past_of T) p) [
  | inl past ↦ absurd (early (p - 1) (omega arith) (omega arith))
  | inr within ↦ within
]
  where
    early : (m : ℕ) → p ≡ suc m → length T.events ≤ m → ⊥
    early m is past = elim (history-step T m) [
      | inl (a, at) ↦ omega (arith, (act-within T (suc m) a at).1)
      | inr (beyond, same) ↦
          x.first m (omega arith) (λ s ends. x.safe s (subst (λ q. Ends (history T q) s) (sym is) (subst (λ h. Ends h s) (sym same) ends)))
    ]

-- the place is the same
pub safe-place : (T : Recording) (l j : ℕ) (place : Option ℕ) → TellsPlace T l j place → IsSafePlace T l j (unwrap_or place (past_of T))
safe-place T l j None never = record {
  within = omega arith;
  has = λ below. absurd (omega arith);
  none_before = λ k below safe. never k (never-pending T l k j safe);
}
safe-place T l j (Some p) x = record {
  within = safe-within T l j p x;
  has = λ below pending. omega (arith, pending.missing, x.safe pending.end pending.ends);
  none_before = λ k below safe. x.first k below (never-pending T l k j safe);
}

-- what a list tells of the events before a place, with the one there
pub told-next : (Tells : ℕ → ℕ → Type 0) (list : List ℕ) (i n x p : ℕ) → i < length list → Tells (suc i) x → ((m q : ℕ) → m < i → slice_get list m ≡ Some q → Tells (suc m) q) → n < i + 1 → slice_get (set list i x) n ≡ Some p →
    Tells (suc n) p
told-next Tells list i n x p within tells rest before is = go (cases_eq n i)
  where
    value : get_or (set list i x) n x ≡ p
    value = get_or_from_slice_get (set list i x) n p x is

    inside : n < length list
    inside = omega (arith, slice_get_within (set list i x) n p is, length-set list i x)

    go : (n ≡ i) ⊎ (n ≢ i) → Tells (suc n) p
    go (inl e) =
        let found : x ≡ p = sym (get_or-set_same list i x x within) ∙ ap (λ k. get_or (set list i x) k x) (sym e) ∙ value in
        subst (λ k. Tells (suc k) p) (sym e) (subst (Tells (suc i)) found tells)
    go (inr apart) = rest n p (omega arith) (slice_get-get_or list n x inside ∙ ap Some (sym (get_or-set_other list i n x x apart) ∙ value))

-- what is told of an event
pub place-told : (T : Recording) (i number p : ℕ) (place : Option ℕ) → number ≡ suc i → p ≡ unwrap_or place (past_of T) → ((l : ℕ) (w : Written) → IsAct T number (Stores l w) → TellsPlace T l number place) → TellsSafe T (suc i) p
place-told T i number p place same is told = λ l w at.
    subst (IsSafePlace T l (suc i)) (sym is) (safe-place T l (suc i) place (subst (λ k. TellsPlace T l k place) same (told l w (subst (λ k. IsAct T k (Stores l w)) (sym same) at))))
