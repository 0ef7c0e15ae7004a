-- Marks by number: one mark more.
use Rattle.std.proofs.Common.{◌≡◌, ℕ, zero, suc, ◌+◌, ◌-◌, ◌<◌, ◌≤◌, ◌⊎◌, inl, inr, Bool, true, List, [], ◌∷◌, ◌++◌, length, get_or, set, take, refl, arith}
use Rattle.std.specs.Prelude.{◌↔◌}
use Rattle.std.proofs.Math.Seq.{take-suc}
use Rattle.pmt_model.specs.Selections.{Has}
use Rattle.pmt_tables.specs.Flags.{is_kept_at, MarksThese}
use Rattle.pmt_tables.proofs.MarkLemmas.{is_kept_at-set}

-- the numbers with one more at the end
has-push : (ks : List ℕ) (n k : ℕ) → Has (ks ++ n ∷ []) k ↔ (Has ks k ⊎ (n ≡ k))
has-push [] n k = (there, back)
  where
    there : (n ≡ k) ⊎ ⊥ → ⊥ ⊎ (n ≡ k)
    there (inl e) = inr e
    there (inr h) = absurd h

    back : ⊥ ⊎ (n ≡ k) → (n ≡ k) ⊎ ⊥
    back (inl h) = absurd h
    back (inr e) = inl e
has-push (j ∷ ks) n k = (there (has-push ks n k).0, back (has-push ks n k).1)
  where
    there : (Has (ks ++ n ∷ []) k → Has ks k ⊎ (n ≡ k)) → (j ≡ k) ⊎ Has (ks ++ n ∷ []) k → ((j ≡ k) ⊎ Has ks k) ⊎ (n ≡ k)
    there f (inl e) = inl (inl e)
    there f (inr h) = elim (f h) [ inl x ↦ inl (inr x) | inr e ↦ inr e ]

    back : (Has ks k ⊎ (n ≡ k) → Has (ks ++ n ∷ []) k) → ((j ≡ k) ⊎ Has ks k) ⊎ (n ≡ k) → (j ≡ k) ⊎ Has (ks ++ n ∷ []) k
    back f (inl (inl e)) = inl e
    back f (inl (inr h)) = inr (f (inl h))
    back f (inr e) = inr (f (inr e))

-- one number more is marked
marks-more : (old marked : List Bool) (ks : List ℕ) (n : ℕ) → 1 ≤ n → n ≤ length marked → MarksThese old ks marked → MarksThese old (ks ++ n ∷ []) (set marked (n - 1) true)
marks-more old marked ks zero some within marks = absurd (omega arith)
marks-more old marked ks (suc i) some within marks =
    let e : suc i - 1 ≡ i = omega arith in
    rw e (λ n.
    let at = is_kept_at-set marked i n within in
    let has = has-push ks (suc i) n in
    (λ x. there n (has.1) (marks n).0 (at.0 x), λ x. at.1 (back n (has.0) (marks n).1 x)))
  where
    there : (n : ℕ) → (Has ks n ⊎ (suc i ≡ n) → Has (ks ++ suc i ∷ []) n) → (is_kept_at marked n ≡ true → (is_kept_at old n ≡ true) ⊎ Has ks n) →
        (is_kept_at marked n ≡ true) ⊎ (suc i ≡ n) → (is_kept_at old n ≡ true) ⊎ Has (ks ++ suc i ∷ []) n
    there n f g (inl m) = elim (g m) [ inl o ↦ inl o | inr h ↦ inr (f (inl h)) ]
    there n f g (inr e) = inr (f (inr e))

    back : (n : ℕ) → (Has (ks ++ suc i ∷ []) n → Has ks n ⊎ (suc i ≡ n)) → ((is_kept_at old n ≡ true) ⊎ Has ks n → is_kept_at marked n ≡ true) →
        (is_kept_at old n ≡ true) ⊎ Has (ks ++ suc i ∷ []) n → (is_kept_at marked n ≡ true) ⊎ (suc i ≡ n)
    back n f g (inl o) = inl (g (inl o))
    back n f g (inr h) = elim (f h) [ inl x ↦ inl (g (inr x)) | inr e ↦ inr e ]

-- no number is marked besides
pub marks-none : (marked : List Bool) → MarksThese marked [] marked
marks-none marked n = (λ e. inl e, λ x. elim x [ inl e ↦ e | inr h ↦ absurd h ])

-- a list has the number at each of its places
pub has-at : (ks : List ℕ) (i : ℕ) → i < length ks → Has ks (get_or ks i 0)
has-at [] i h = absurd (omega arith)
has-at (k ∷ ks) zero h = inl refl
has-at (k ∷ ks) (suc i) h = inr (has-at ks i (omega arith))

-- and the next one of a list
pub marks-next : (old marked : List Bool) (numbers : List ℕ) (i : ℕ) → i < length numbers → ((n : ℕ) → Has numbers n → (1 ≤ n) × (n ≤ length marked)) → MarksThese old (take i numbers) marked →
    MarksThese old (take (i + 1) numbers) (set marked (get_or numbers i 0 - 1) true)
marks-next old marked numbers i h within marks =
    let e : i + 1 ≡ suc i = omega arith in
    let n = get_or numbers i 0 in
    let range = within n (has-at numbers i h) in
    rw (e, take-suc numbers i 0 h) (marks-more old marked (take i numbers) n range.0 range.1 marks)
