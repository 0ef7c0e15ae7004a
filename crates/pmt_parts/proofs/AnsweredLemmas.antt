-- The events that a part answers for are those of the whole after the event `before` up to its end.
use Rattle.pmt_parts.proofs.Prelude.{◌≡◌, ℕ, zero, suc, ◌+◌, ◌-◌, ◌<◌, ◌≤◌, inl, inr, List, [], ◌∷◌, length, take, drop, slice_range, filter_map, Some, refl, sym, ap, ap₂, subst, ◌∙◌, arith, slice_get, cases_lt, Event, Recording, event, IsRising, Has, matching_place, event-some, has-above, place-low, ByteRange, stretch, Part, IsPartOf, answered, place-in}
use Rattle.pmt_parts.proofs.PartsCarryLemmas.{by-end}

-- ---- The numbers after a place

-- a rising list of just the numbers after n up to n + c
all-after : (n c : ℕ) (K : List ℕ) → IsRising n K → ((k : ℕ) → Has K k → k ≤ n + c) → ((k : ℕ) → n < k → k ≤ n + c → Has K k) → K ≡ stretch n c
all-after n zero [] rising by has = refl
all-after n zero (k ∷ ks) rising by has = absurd (omega (arith, rising.0, by k (inl refl)))
all-after n (suc c) [] rising by has = absurd (has (suc n) (omega arith) (omega arith))
all-after n (suc c) (k ∷ ks) rising by has = ap₂ (λ x xs. x ∷ xs) first (all-after (suc n) c ks (subst (λ m. IsRising m ks) first rising.1) later-by later-has)
  where
    first : k ≡ suc n
    first = elim (has (suc n) (omega arith) (omega arith)) [
      | inl e ↦ e
      | inr more ↦ absurd (omega (arith, rising.0, has-above k ks (suc n) rising.1 more))
    ]

    later-by : (j : ℕ) → Has ks j → j ≤ suc n + c
    later-by j more = omega (arith, by j (inr more))

    later-has : (j : ℕ) → suc n < j → j ≤ suc n + c → Has ks j
    later-has j after within = elim (has j (omega (arith, after)) (omega (arith, within))) [
      | inl e ↦ absurd (omega (arith, e, first, after))
      | inr more ↦ more
    ]

after-place : (low n c : ℕ) (K : List ℕ) → IsRising low K → ((k : ℕ) → Has K k → k ≤ n + c) → ((k : ℕ) → n < k → k ≤ n + c → Has K k) → drop (matching_place K n) K ≡ stretch n c
after-place low n c [] rising by has = all-after n c [] tt by has
after-place low n c (k ∷ ks) rising by has = elim (cases_lt n k) [
  | inl after ↦ subst (λ m. drop m (k ∷ ks) ≡ stretch n c) (sym (place-low n (k ∷ ks) n (after, rising.1) (omega arith))) (all-after n c (k ∷ ks) (after, rising.1) by has)
  | inr before ↦ subst (λ m. drop m (k ∷ ks) ≡ stretch n c) (sym (place-in k ks n before)) (after-place k n c ks rising.1 (λ j more. by j (inr more)) (later before))
]
  where
    later : k ≤ n → (j : ℕ) → n < j → j ≤ n + c → Has ks j
    later before j after within = elim (has j after within) [
      | inl e ↦ absurd (omega (arith, e, before, after))
      | inr more ↦ more
    ]

-- ---- Their events

drop-chosen : (T : Recording) (i : ℕ) (K : List ℕ) → ((k : ℕ) → Has K k → (e : Event) × (event T k ≡ Some e)) → drop i (filter_map (event T) K) ≡ filter_map (event T) (drop i K)
drop-chosen T zero K some = refl
drop-chosen T (suc i) [] some = refl
drop-chosen T (suc i) (k ∷ ks) some = let x = some k (inl refl) in rw x.1 (drop-chosen T i ks (λ j more. some j (inr more)))

drop-some : (xs : List Event) (n : ℕ) (e : Event) → slice_get xs n ≡ Some e → drop n xs ≡ e ∷ drop (suc n) xs
drop-some [] n e is = absurd (cc)
drop-some (x ∷ xs) zero e is = let same : x ≡ e = cc in ap (λ y. y ∷ xs) same
drop-some (x ∷ xs) (suc n) e is = drop-some xs n e is

stretch-events : (T : Recording) (n c : ℕ) → n + c ≤ length T.events → filter_map (event T) (stretch n c) ≡ take c (drop n T.events)
stretch-events T n zero within = refl
stretch-events T n (suc c) within =
    let x = event-some T n (omega (arith, within)) in
    let rest : filter_map (event T) (stretch (suc n) c) ≡ take c (drop (suc n) T.events) = stretch-events T (suc n) c (omega (arith, within)) in
    rw x.1 (ap (λ es. x.0 ∷ es) rest ∙ sym (ap (take (suc c)) (drop-some T.events n x.0 x.1)))

-- ---- The part

pub answered-is : (T : Recording) (ranges : List ByteRange) (p : Part) → IsPartOf T ranges p → answered p ≡ slice_range T.events p.before p.end
answered-is T ranges p it =
    ap (λ (P : Recording). drop m P.events) it.trace
    ∙ drop-chosen T m K some
    ∙ ap (filter_map (event T)) (after-place 0 p.before c K it.part.rising by has)
    ∙ stretch-events T p.before c (omega (arith, long, it.part.within))
  where
    K : List ℕ
    K = p.numbers.items

    m : ℕ
    m = matching_place K p.before

    c : ℕ
    c = p.end - p.before

    long : p.before + c ≡ p.end
    long = omega (arith, it.answers)

    by : (k : ℕ) → Has K k → k ≤ p.before + c
    by k x = omega (arith, long, by-end T ranges p.place p.end K it.part k x)

    has : (k : ℕ) → p.before < k → k ≤ p.before + c → Has K k
    has k after within = (it.part.just k).1 (inr (omega (arith, it.order, after), omega (arith, long, within)))

    some : (k : ℕ) → Has K k → (e : Event) × (event T k ≡ Some e)
    some zero x = absurd (omega (arith, has-above 0 K 0 it.part.rising x))
    some (suc n) x = event-some T n (omega (arith, by-end T ranges p.place p.end K it.part (suc n) x, it.part.within))
