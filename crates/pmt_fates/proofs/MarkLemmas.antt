-- Numbers of a list, marked one after another.
use Rattle.pmt_fates.proofs.Prelude.{◌≡◌, ◌≢◌, ℕ, zero, suc, ◌+◌, ◌<◌, ◌≤◌, ◌⊎◌, inl, inr, Bool, true, false, List, [], ◌∷◌, length, map, take, get_or, set, get_or-set_same, get_or-set_other, Some, refl, sym, ap, subst, ◌∙◌, arith, ◌==◌, ◌||◌, slice_get, cases_lt, cases_eq, eq-eqb, ne_eqb, lt-ltb, le-ltb, length-set, slice_get-get_or, get_or_from_slice_get, slice_get_within, event_of, is_listed, AreMarks, with_mark}
use Rattle.std.proofs.lemmas.List.Folds.{list_any_more}
use Rattle.pmt_explain.specs.declared.dropped_event.Dropped.{Dropped}

or-false : (b : Bool) → (b || false) ≡ b
or-false true = refl
or-false false = refl

or-true : (b : Bool) → (b || true) ≡ true
or-true true = refl
or-true false = refl

-- one more number
pub marks-more : (n : ℕ) (numbers : List ℕ) (i number : ℕ) (old new : List Bool) → i < length numbers → number ≡ get_or numbers i 0 → new ≡ with_mark number old → AreMarks n (take i numbers) old →
    AreMarks n (take (i + 1) numbers) new
marks-more n numbers i number old new within is made x = subst (AreMarks n (take (i + 1) numbers)) (sym made) (go number is)
  where
    listed : (k : ℕ) → is_listed (take (i + 1) numbers) k ≡ (is_listed (take i numbers) k || (get_or numbers i 0 == k))
    listed k = list_any_more (λ (m : ℕ). m == k) numbers i 0 within

    same : (j k : ℕ) (b : Bool) → j ≡ get_or numbers i 0 → j ≢ k → b ≡ is_listed (take i numbers) k → b ≡ is_listed (take (i + 1) numbers) k
    same j k b own apart was =
        let other : (get_or numbers i 0 == k) ≡ false = ne_eqb (get_or numbers i 0) k (λ e. apart (own ∙ e)) in
        was ∙ sym (listed k ∙ ap (λ t. is_listed (take i numbers) k || t) other ∙ or-false (is_listed (take i numbers) k))

    go : (j : ℕ) → j ≡ get_or numbers i 0 → AreMarks n (take (i + 1) numbers) (with_mark j old)
    go zero own = record { size = x.size; each = λ k b at. same zero (suc k) b own (λ e. absurd (omega (arith, e))) (x.each k b at) }
    go (suc j) own = by_length (cases_lt j (length old))
      where
        by_length : (j < length old) ⊎ (length old ≤ j) → AreMarks n (take (i + 1) numbers) (with_mark (suc j) old)
        by_length (inr past) =
            let kept : with_mark (suc j) old ≡ old = rw (le-ltb j (length old) past) refl in
            subst (AreMarks n (take (i + 1) numbers)) (sym kept)
            (record { size = x.size; each = λ k b at. same (suc j) (suc k) b own (λ e. absurd (omega (arith, e, slice_get_within old k b at))) (x.each k b at) })
        by_length (inl inside) =
            let put : with_mark (suc j) old ≡ set old j true = rw (lt-ltb j (length old) inside) refl in
            subst (AreMarks n (take (i + 1) numbers)) (sym put) (record { size = length-set old j true ∙ x.size; each = each })
          where
            each : (k : ℕ) (b : Bool) → slice_get (set old j true) k ≡ Some b → b ≡ is_listed (take (i + 1) numbers) (suc k)
            each k b at = by_place (cases_eq j k)
              where
                value : get_or (set old j true) k false ≡ b
                value = get_or_from_slice_get (set old j true) k b false at

                by_place : (j ≡ k) ⊎ (j ≢ k) → b ≡ is_listed (take (i + 1) numbers) (suc k)
                by_place (inl e) =
                    let here : (get_or numbers i 0 == suc k) ≡ true = eq-eqb (get_or numbers i 0) (suc k) (sym own ∙ ap suc e) in
                    sym value ∙ ap (λ m. get_or (set old j true) m false) (sym e) ∙ get_or-set_same old j true false inside
                    ∙ sym (listed (suc k) ∙ ap (λ t. is_listed (take i numbers) (suc k) || t) here ∙ or-true (is_listed (take i numbers) (suc k)))
                by_place (inr apart) =
                    let below : k < length old = omega (arith, slice_get_within (set old j true) k b at, length-set old j true) in
                    let was : slice_get old k ≡ Some b = slice_get-get_or old k false below ∙ ap Some (sym (get_or-set_other old j k true false (λ e. apart (sym e))) ∙ value) in
                    same (suc j) (suc k) b own (λ e. apart (omega (arith, e))) (x.each k b was)

-- the number of a dropped event in the list of them
pub number-at : (list : List Dropped) (i : ℕ) (d : Dropped) → i < length list → event_of (get_or list i d) ≡ get_or (map event_of list) i 0
number-at [] i d within = absurd (omega arith)
number-at (x ∷ list) zero d within = refl
number-at (x ∷ list) (suc i) d within = number-at list i d (omega arith)
