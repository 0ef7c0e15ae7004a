-- Marks by number: one mark more.
use Rattle.std.proofs.Common.{◌≡◌, ℕ, zero, suc, ◌-◌, ◌<◌, ◌≤◌, ◌⊎◌, inl, inr, Bool, true, false, List, [], ◌∷◌, length, get_or, set, sym, ap, ◌∙◌, arith, get_or-set_same, get_or-set_other}
use Rattle.std.specs.Prelude.{◌↔◌}
use Rattle.std.proofs.lemmas.Bool.{cases_eq, false≢true}
use Rattle.pmt_model.specs.Selections.{Has}
use Rattle.pmt_tables.specs.Flags.{is_kept_at, MarksThese}

-- a mark that is set is there, and leaves the others
pub is_kept_at-set : (marked : List Bool) (i n : ℕ) → i < length marked → (is_kept_at (set marked i true) n ≡ true) ↔ ((is_kept_at marked n ≡ true) ⊎ (suc i ≡ n))
is_kept_at-set marked i zero h = (λ e. absurd (false≢true e), λ x. elim x [ inl e ↦ e | inr e ↦ absurd (omega arith) ])
is_kept_at-set marked i (suc n) h = go (cases_eq n i)
  where
    go : (n ≡ i) ⊎ (n ≡ i → ⊥) → (get_or (set marked i true) n false ≡ true) ↔ ((get_or marked n false ≡ true) ⊎ (suc i ≡ suc n))
    go (inl e) = (λ _. inr (omega arith), λ _. ap (λ k. get_or (set marked i true) k false) e ∙ get_or-set_same marked i true false h)
    go (inr other) =
        let stays = get_or-set_other marked i n true false other in
        (λ e. inl (sym stays ∙ e), λ x. elim x [ inl e ↦ stays ∙ e | inr e ↦ absurd (other (omega arith)) ])

-- no number is marked besides
pub marks-nothing : (marked : List Bool) → MarksThese marked [] marked
marks-nothing marked n = (λ e. inl e, λ x. elim x [ inl e ↦ e | inr h ↦ absurd h ])

-- one number more is marked, before the others
pub marks-one : (old marked : List Bool) (ks : List ℕ) (n : ℕ) → 1 ≤ n → n ≤ length marked → MarksThese old ks marked → MarksThese old (n ∷ ks) (set marked (n - 1) true)
marks-one old marked ks zero some within marks = absurd (omega arith)
marks-one old marked ks (suc i) some within marks =
    let e : suc i - 1 ≡ i = omega arith in
    rw e (λ n.
    let at = is_kept_at-set marked i n within in
    (λ x. there n (marks n).0 (at.0 x), λ x. at.1 (back n (marks n).1 x)))
  where
    there : (n : ℕ) → (is_kept_at marked n ≡ true → (is_kept_at old n ≡ true) ⊎ Has ks n) → (is_kept_at marked n ≡ true) ⊎ (suc i ≡ n) → (is_kept_at old n ≡ true) ⊎ Has (suc i ∷ ks) n
    there n f (inl m) = elim (f m) [ inl o ↦ inl o | inr h ↦ inr (inr h) ]
    there n f (inr e) = inr (inl e)

    back : (n : ℕ) → ((is_kept_at old n ≡ true) ⊎ Has ks n → is_kept_at marked n ≡ true) → (is_kept_at old n ≡ true) ⊎ Has (suc i ∷ ks) n → (is_kept_at marked n ≡ true) ⊎ (suc i ≡ n)
    back n g (inl o) = inl (g (inl o))
    back n g (inr (inl e)) = inr e
    back n g (inr (inr h)) = inl (g (inr h))
