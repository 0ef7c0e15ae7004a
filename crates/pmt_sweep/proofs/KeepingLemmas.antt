-- Which of the flushes that wait for a fence are flagged.
use Rattle.std.proofs.Common.{◌≡◌, ℕ, suc, ◌≤◌, ◌⊎◌, inl, inr, Bool, true, false, List, [], ◌∷◌, ◌++◌, map, refl, sym, subst, ◌∙◌, arith}
use Rattle.std.specs.Prelude.{◌↔◌, ◌<◌, nat_lt, if◌then◌else◌}
use Rattle.std.proofs.lemmas.Bool.{ltb-true}
use Rattle.std.proofs.lemmas.List.{append_assoc}
use Rattle.pmt_laws.specs.Prelude.{Fences, Recording, IsAct, history, Has, IsKept}
use Rattle.pmt_tables.specs.Flags.{is_kept_at, MarksThese}
use Rattle.pmt_safety.specs.Safety.{safe_store_at}
use Rattle.pmt_rows.specs.Waiting.{Waiting, waiting, raise_all, raisers}
use Rattle.pmt_rows.proofs.KeepingLemmas.{kept_by_raise, open-numbers}
use Rattle.pmt_sweep.specs.Passing.{FlagsKept, open_numbers}

-- the flushes that raise a line are those that are kept
raisers-kept : (T : Recording) (t n k : ℕ) (older ws : List Waiting) → IsAct T (suc n) (Fences t) → waiting t (history T n) ≡ older ++ ws →
    Has (raisers ws (λ l. safe_store_at T l n)) k ↔ (Has (map (λ (w : Waiting). w.number) ws) k × IsKept T k)
raisers-kept T t n k older [] fence split = (λ none. absurd none, λ x. absurd x.0)
raisers-kept T t n k older (w ∷ ws) fence split =
    go (nat_lt (raise_all ws (λ l. safe_store_at T l n) w.line) w.store) refl (kept_by_raise T t n older ws w fence split)
    (raisers-kept T t n k (older ++ w ∷ []) ws fence (split ∙ sym (append_assoc older (w ∷ []) ws)))
  where
    go : (b : Bool) → nat_lt (raise_all ws (λ l. safe_store_at T l n) w.line) w.store ≡ b → IsKept T w.number ↔ (raise_all ws (λ l. safe_store_at T l n) w.line < w.store) →
        Has (raisers ws (λ l. safe_store_at T l n)) k ↔ (Has (map (λ (v : Waiting). v.number) ws) k × IsKept T k) →
        Has (if b then w.number ∷ raisers ws (λ l. safe_store_at T l n) else raisers ws (λ l. safe_store_at T l n)) k ↔ (Has (w.number ∷ map (λ (v : Waiting). v.number) ws) k × IsKept T k)
    go true e law rest = (there, back)
      where
        there : (w.number ≡ k) ⊎ Has (raisers ws (λ l. safe_store_at T l n)) k → ((w.number ≡ k) ⊎ Has (map (λ (v : Waiting). v.number) ws) k) × IsKept T k
        there (inl same) = (inl same, subst (IsKept T) same (law.1 (ltb-true (raise_all ws (λ l. safe_store_at T l n) w.line) w.store e)))
        there (inr has) = let x = rest.0 has in (inr x.0, x.1)

        back : ((w.number ≡ k) ⊎ Has (map (λ (v : Waiting). v.number) ws) k) × IsKept T k → (w.number ≡ k) ⊎ Has (raisers ws (λ l. safe_store_at T l n)) k
        back (inl same, kept) = inl same
        back (inr has, kept) = inr (rest.1 (has, kept))
    go false e law rest = (there, back)
      where
        there : Has (raisers ws (λ l. safe_store_at T l n)) k → ((w.number ≡ k) ⊎ Has (map (λ (v : Waiting). v.number) ws) k) × IsKept T k
        there has = let x = rest.0 has in (inr x.0, x.1)

        back : ((w.number ≡ k) ⊎ Has (map (λ (v : Waiting). v.number) ws) k) × IsKept T k → Has (raisers ws (λ l. safe_store_at T l n)) k
        back (inl same, kept) =
            let up = law.0 (subst (IsKept T) (sym same) kept) in
            let low : w.store ≤ raise_all ws (λ l. safe_store_at T l n) w.line = grind (arith, e) in
            absurd (omega (arith, up, low))
        back (inr has, kept) = rest.1 (has, kept)

pub flags_kept : (T : Recording) (t n : ℕ) (old new : List Bool) → IsAct T (suc n) (Fences t) → MarksThese old (raisers (waiting t (history T n)) (λ l. safe_store_at T l n)) new → FlagsKept T n t old new
flags_kept T t n old new fence marks k =
    let law = raisers-kept T t n k [] (waiting t (history T n)) fence refl in
    let numbers : map (λ (w : Waiting). w.number) (waiting t (history T n)) ≡ open_numbers T n t = open-numbers T t n in
    (there law.0 numbers (marks k).0, back law.1 numbers (marks k).1)
  where
    there : (Has (raisers (waiting t (history T n)) (λ l. safe_store_at T l n)) k → Has (map (λ (w : Waiting). w.number) (waiting t (history T n))) k × IsKept T k) →
        map (λ (w : Waiting). w.number) (waiting t (history T n)) ≡ open_numbers T n t → (is_kept_at new k ≡ true → (is_kept_at old k ≡ true) ⊎ Has (raisers (waiting t (history T n)) (λ l. safe_store_at T l n)) k) →
        is_kept_at new k ≡ true → (is_kept_at old k ≡ true) ⊎ (Has (open_numbers T n t) k × IsKept T k)
    there law numbers f e = elim (f e) [ inl o ↦ inl o | inr has ↦ let x = law has in inr (subst (λ ks. Has ks k) numbers x.0, x.1) ]

    back : (Has (map (λ (w : Waiting). w.number) (waiting t (history T n))) k × IsKept T k → Has (raisers (waiting t (history T n)) (λ l. safe_store_at T l n)) k) →
        map (λ (w : Waiting). w.number) (waiting t (history T n)) ≡ open_numbers T n t → ((is_kept_at old k ≡ true) ⊎ Has (raisers (waiting t (history T n)) (λ l. safe_store_at T l n)) k → is_kept_at new k ≡ true) →
        (is_kept_at old k ≡ true) ⊎ (Has (open_numbers T n t) k × IsKept T k) → is_kept_at new k ≡ true
    back law numbers g (inl o) = g (inl o)
    back law numbers g (inr x) = g (inr (law (subst (λ ks. Has ks k) (sym numbers) x.0, x.1)))
