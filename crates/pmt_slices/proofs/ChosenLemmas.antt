-- What is chosen, going back event by event.
use Rattle.pmt_slices.proofs.Prelude.{◌≡◌, ℕ, zero, suc, ◌<◌, ◌≤◌, ◌⊎◌, inl, inr, Bool, true, false, List, length, Some, [], ◌∷◌, get_or, sym, subst, ◌∙◌, true≢false, arith, ◌↔◌, cases_lt, same_Some, Written, Span, Stores, Event, IsPersist, IsOrderedBefore, Recording, IsAct, event, IsRising, Has, act-unique, act-within, IsLastIn, Coming, Tells, Speaks, IsRangeOf, IsInSlice, TheAssertion, OfStore, IsSlice, IsComing, IsChosen, HasChosen, Chooses, IsOfStore}
use Rattle.pmt_slices.proofs.SliceLemmas.{tells-within, tells-some, persist-range, first-range, second-range}
use Rattle.pmt_slices.proofs.ComingLemmas.{tells-coming, coming-tells}

-- what is chosen has a flag
pub chosen-within : (chosen : List Bool) (k : ℕ) → IsChosen chosen k → (1 ≤ k) × (k ≤ length chosen)
chosen-within chosen zero is = absurd (true≢false (sym is))
chosen-within chosen (suc i) is = (omega arith, go chosen i is)
  where
    go : (xs : List Bool) (i : ℕ) → get_or xs i false ≡ true → suc i ≤ length xs
    go [] i is = absurd (true≢false (sym is))
    go (x ∷ xs) zero is = omega arith
    go (x ∷ xs) (suc i) is = omega (arith, go xs i is)

-- before any event was met nothing more is chosen
pub chosen-none : (T : Recording) (A : Span) (n : ℕ) (before : List Bool) → length before ≡ n → ((l j : ℕ) → IsLastIn T n A l j → j ≤ n) → HasChosen T A n n before before
chosen-none T A n before size within = record { size = size; stays = λ k is. is; all = λ l j k it after tells. absurd (omega (arith, within l j it, after)); just = λ k is. inl is }

-- over an event that is no last store
pub chosen-over : (T : Recording) (A : Span) (m n : ℕ) (before chosen : List Bool) → ((l : ℕ) → ¬ IsLastIn T n A l (suc m)) → HasChosen T A (suc m) n before chosen → HasChosen T A m n before chosen
chosen-over T A m n before chosen none old = record {
  size = old.size;
  stays = old.stays;
  all = λ l j k it after tells. elim (cases_lt (suc m) j) [
    | inl later ↦ old.all l j k it later tells
    | inr here ↦ let e : j ≡ suc m = omega arith in absurd (none l (subst (IsLastIn T n A l) e it))
  ];
  just = old.just;
}

-- over a last store
pub chosen-store : (T : Recording) (A : Span) (m n l number : ℕ) (w : Written) (c : Coming) (before old new : List Bool) → IsAct T (suc m) (Stores l w) → number ≡ suc m → suc m ≤ n → IsLastIn T n A l (suc m) → IsComing T l (suc m) (suc n) c →
    Chooses (IsOfStore number c (length old)) old new → HasChosen T A (suc m) n before old → HasChosen T A m n before new
chosen-store T A m n l number w c before old new is same within last coming chooses had = record {
  size = chooses.size ∙ had.size;
  stays = λ k at. chooses.stays k (had.stays k at);
  all = λ k j i it after tells. elim (cases_lt (suc m) j) [
    | inl later ↦ chooses.stays i (had.all k j i it later tells)
    | inr here ↦ let e : j ≡ suc m = omega arith in here-all k i (subst (IsLastIn T n A k) e it) (subst (λ x. Tells T n k x i) e tells)
  ];
  just = λ k at. elim (chooses.just k at) [
    | inl earlier ↦ had.just k earlier
    | inr own ↦ inr (l, suc m, last, coming-tells T l (suc m) n k w c is coming (omega (arith, (chosen-within new k at).1, chooses.size, had.size)) (subst (λ x. IsOfStore (suc m) c x k) had.size (subst (λ x. IsOfStore x c (length old) k) same own)))
  ];
}
  where
    here-all : (k i : ℕ) → IsLastIn T n A k (suc m) → Tells T n k (suc m) i → IsChosen new i
    here-all k i it tells =
        let e = act-unique T (suc m) (Stores k it.what) (Stores l w) it.is_store is in
        let line : k ≡ l = cc in
        let own : Tells T n l (suc m) i = subst (λ x. Tells T n x (suc m) i) line tells in
        let of = tells-coming T l (suc m) n i w c is coming own in
        chooses.own i (omega (arith, tells-some T n l (suc m) i w is own)) (omega (arith, tells-within T n l (suc m) i w is within own, had.size)) (subst (λ x. IsOfStore x c (length old) i) (sym same) (subst (λ x. IsOfStore (suc m) c x i) (sym had.size) of))

-- a store has a number above 0
store-some : (T : Recording) (l j : ℕ) (w : Written) → IsAct T j (Stores l w) → 0 < j
store-some T l j w is = omega (arith, (act-within T j (Stores l w) is).0)

-- an isPersist has one range
of-persist : (T : Recording) (n : ℕ) (e : Event) (A B : Span) → event T n ≡ Some e → e.op ≡ IsPersist A → IsRangeOf T n B → A ≡ B
of-persist T n e A B is op (x, at, speaks) =
    let same : x ≡ e = same_Some x e (sym at ∙ is) in
    subst (λ o. Speaks o B) op (subst (λ y. Speaks y.op B) same speaks)

-- and an isOrderedBefore two
of-ordered : (T : Recording) (n : ℕ) (e : Event) (A B C : Span) → event T n ≡ Some e → e.op ≡ IsOrderedBefore A B → IsRangeOf T n C → (A ≡ C) ⊎ (B ≡ C)
of-ordered T n e A B C is op (x, at, speaks) =
    let same : x ≡ e = same_Some x e (sym at ∙ is) in
    subst (λ o. Speaks o C) op (subst (λ y. Speaks y.op C) same speaks)

-- what was chosen of one range
pub persist-slice : (T : Recording) (n : ℕ) (e : Event) (A : Span) (K : List ℕ) (before chosen : List Bool) → event T n ≡ Some e → e.op ≡ IsPersist A → IsRising 0 K → ((k : ℕ) → Has K k ↔ IsChosen chosen k) → ((k : ℕ) → IsChosen before k ↔ (k ≡ n)) →
    HasChosen T A 0 n before chosen → IsSlice T n K
persist-slice T n e A K before chosen is op rising just only had = record {
  rising = rising;
  just = λ k. (λ has. there k (had.just k ((just k).0 has)), λ of. (just k).1 (back k of));
}
  where
    there : (k : ℕ) → IsChosen before k ⊎ ((l : ℕ) × (j : ℕ) × IsLastIn T n A l j × Tells T n l j k) → IsInSlice T n k
    there k (inl own) = TheAssertion ((only k).0 own)
    there k (inr (l, j, it, tells)) = OfStore A l j (persist-range T n e A is op) it tells

    back : (k : ℕ) → IsInSlice T n k → IsChosen chosen k
    back k (TheAssertion own) = had.stays k ((only k).1 own)
    back k (OfStore B l j range it tells) =
        let same : A ≡ B = of-persist T n e A B is op range in
        had.all l j k (subst (λ C. IsLastIn T n C l j) (sym same) it) (store-some T l j it.what it.is_store) tells

-- and of two
pub ordered-slice : (T : Recording) (n : ℕ) (e : Event) (A B : Span) (K : List ℕ) (before one chosen : List Bool) → event T n ≡ Some e → e.op ≡ IsOrderedBefore A B → IsRising 0 K → ((k : ℕ) → Has K k ↔ IsChosen chosen k) → ((k : ℕ) → IsChosen before k ↔ (k ≡ n)) →
    HasChosen T A 0 n before one → HasChosen T B 0 n one chosen → IsSlice T n K
ordered-slice T n e A B K before one chosen is op rising just only first second = record {
  rising = rising;
  just = λ k. (λ has. there k (second.just k ((just k).0 has)), λ of. (just k).1 (back k of));
}
  where
    from_first : (k : ℕ) → IsChosen before k ⊎ ((l : ℕ) × (j : ℕ) × IsLastIn T n A l j × Tells T n l j k) → IsInSlice T n k
    from_first k (inl own) = TheAssertion ((only k).0 own)
    from_first k (inr (l, j, it, tells)) = OfStore A l j (first-range T n e A B is op) it tells

    there : (k : ℕ) → IsChosen one k ⊎ ((l : ℕ) × (j : ℕ) × IsLastIn T n B l j × Tells T n l j k) → IsInSlice T n k
    there k (inl own) = from_first k (first.just k own)
    there k (inr (l, j, it, tells)) = OfStore B l j (second-range T n e A B is op) it tells

    back : (k : ℕ) → IsInSlice T n k → IsChosen chosen k
    back k (TheAssertion own) = second.stays k (first.stays k ((only k).1 own))
    back k (OfStore C l j range it tells) = elim (of-ordered T n e A B C is op range) [
      | inl same ↦ second.stays k (first.all l j k (subst (λ D. IsLastIn T n D l j) (sym same) it) (store-some T l j it.what it.is_store) tells)
      | inr same ↦ second.all l j k (subst (λ D. IsLastIn T n D l j) (sym same) it) (store-some T l j it.what it.is_store) tells
    ]
