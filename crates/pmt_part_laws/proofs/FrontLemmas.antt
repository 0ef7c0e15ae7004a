-- Counts, marks and fronts of a trace and of the trace cut to a part.
use Rattle.pmt_part_laws.proofs.Prelude.{◌≡◌, ℕ, zero, suc, ◌-◌, ◌<◌, ◌≤◌, inl, inr, Bool, true, false, ◌==◌, List, ◌∷◌, refl, sym, ap, subst, ◌∙◌, eqb-true, arith, ◌⊎◌, if◌then◌else◌, cases_lt, Act, Stores, Flushes, Clflushes, Fences, count, Recording, IsAct, history, count_at, mark, front, front_at, Has, cut, matching_place, act-unique, front-mono, IsMarkOf, mark-reached, mark-greatest, completed-le_front, IsLastFlush, last-flush, place-mono, count-at_store, IsSubsequence, kept-act, act-origin, placed-by, IsCarried, IsPart, PartFronts}
use Rattle.pmt_part_laws.proofs.StepLemmas.{part_history, part-subsequence, IsNext, Keeps, Drops, next-step, none-yet, along, onward, store-kept, kept-store}

-- the part counts the stores of a line that are above the front at place q
pub count-part : (T : Recording) (q r : ℕ) (K : List ℕ) (l n : ℕ) → IsPart T q r K → n ≤ r → count l (part_history T K n) ≡ count_at T l n - front_at T l q
count-part T q r K l n part within = along T q r K (λ h g. count l g ≡ count l h - front_at T l q) part (omega arith) keeps drops n within
  where
    keeps : (n : ℕ) (a : Act) → suc n ≤ r → IsAct T (suc n) a → Has K (suc n) → count l (part_history T K n) ≡ count_at T l n - front_at T l q → count l (a ∷ part_history T K n) ≡ count l (a ∷ history T n) - front_at T l q
    keeps n (Stores k w) by is has old = at (k == l) refl
      where
        at : (b : Bool) → (k == l) ≡ b → (if b then suc (count l (part_history T K n)) else count l (part_history T K n)) ≡ (if b then suc (count_at T l n) else count_at T l n) - front_at T l q
        at true e =
            let own : IsAct T (suc n) (Stores l w) = subst (λ j. IsAct T (suc n) (Stores j w)) (eqb-true k l e) is in
            omega (arith, old, kept-store T q r K l (suc n) w part has own, count-at_store T l n w own)
        at false e = old
    keeps n a by is has old = old

    drops : (n : ℕ) (a : Act) → suc n ≤ r → IsAct T (suc n) a → ¬ Has K (suc n) → count l (part_history T K n) ≡ count_at T l n - front_at T l q → count l (part_history T K n) ≡ count l (a ∷ history T n) - front_at T l q
    drops n (Stores k w) by is dropped old = at (k == l) refl
      where
        at : (b : Bool) → (k == l) ≡ b → count l (part_history T K n) ≡ (if b then suc (count_at T l n) else count_at T l n) - front_at T l q
        at true e =
            let own : IsAct T (suc n) (Stores l w) = subst (λ j. IsAct T (suc n) (Stores j w)) (eqb-true k l e) is in
            elim (cases_lt (front_at T l q) (count_at T l (suc n))) [
              | inl above ↦ absurd (dropped (store-kept T q r K l (suc n) w part by own above))
              | inr safe ↦ omega (arith, old, safe, count-at_store T l n w own)
            ]
        at false e = old
    drops n a by is dropped old = old

-- a flush of more stores than the front at place q counts, the last one of its line by its thread up to there, is carried
pub flush-carried : (T : Recording) (q t l k : ℕ) → k ≤ q → IsAct T k (Flushes t l) → ((j : ℕ) → k < j → j ≤ q → ¬ IsAct T j (Flushes t l)) → front_at T l q < count_at T l k → IsCarried T q k
flush-carried T q t l k by is last above = inr (record {
  thread = t;
  line = l;
  is_flush = is;
  by_now = by;
  last = last;
  unfenced = λ j after before fence.
      let counted = completed-le_front T l q (count_at T l k) (inl (record { thread = t; flush = k; fence = j; is_flush = is; is_fence = fence; later = after; by_now = before; stores = refl })) in
      omega (arith, counted, above);
})

-- so the last one up to a place of the stretch is in the part
pub last-kept : (T : Recording) (q r : ℕ) (K : List ℕ) (t l n k : ℕ) → IsPart T q r K → q ≤ n → n ≤ r → IsLastFlush T t l n k → front_at T l q < count_at T l k → Has K k
last-kept T q r K t l n k part after within flush above = (part.just k).1 (elim (cases_lt q k) [
  | inl later ↦ inr (later, omega (arith, flush.by_now, within))
  | inr by_now ↦ inl (flush-carried T q t l k by_now flush.is_flush (λ j late by. flush.none_later j late (omega (arith, by, after))) above)
])

-- the part has the marks of the whole, less what is safe at place q
pub mark-part : (T : Recording) (q r : ℕ) (K : List ℕ) (t l n : ℕ) → IsPart T q r K → q ≤ n → n ≤ r → mark t l (part_history T K n) ≡ mark t l (history T n) - front_at T l q
mark-part T q r K t l n part after within = omega (arith, most (mark-reached (cut T K) t l (matching_place K n)), least (last-flush T t l n))
  where
    s : IsSubsequence T K
    s = part-subsequence T q r K part

    most : IsMarkOf (cut T K) t l (matching_place K n) (mark t l (part_history T K n)) → mark t l (part_history T K n) ≤ mark t l (history T n) - front_at T l q
    most (inl none) = omega (arith, none)
    most (inr x) =
        let o = act-origin T K x.flush (Flushes t l) s x.is_flush in
        let by : o.number ≤ n = placed-by T K o.number n s o.chosen (omega (arith, x.by_now, o.place)) in
        let counted : mark t l (part_history T K n) ≡ count_at T l o.number - front_at T l q = sym x.stores ∙ ap (count_at (cut T K) l) (sym o.place) ∙ count-part T q r K l o.number part (omega (arith, by, within)) in
        omega (arith, counted, mark-greatest T t l o.number n o.is_act by)

    least : (mark t l (history T n) ≡ 0) ⊎ ((i : ℕ) × IsLastFlush T t l n i) → mark t l (history T n) - front_at T l q ≤ mark t l (part_history T K n)
    least (inl none) = omega (arith, none)
    least (inr (i, flush)) = elim (cases_lt (front_at T l q) (count_at T l i)) [
      | inl above ↦
          let has = last-kept T q r K t l n i part after within flush above in
          let marked = mark-greatest (cut T K) t l (matching_place K i) (matching_place K n) (kept-act T K i (Flushes t l) s has flush.is_flush) (place-mono K i n flush.by_now) in
          omega (arith, marked, count-part T q r K l i part (omega (arith, flush.by_now, within)), flush.stores)
      | inr safe ↦ omega (arith, safe, flush.stores)
    ]

-- what is carried completes nothing
carried-flat : (T : Recording) (q r : ℕ) (K : List ℕ) (l n : ℕ) → IsPart T q r K → n ≤ q → front l (part_history T K n) ≡ 0
carried-flat T q r K l zero part by = ap (front l) (none-yet T q r K part)
carried-flat T q r K l (suc n) part by = go (next-step T q r K n part (omega (arith, by, part.order))) (carried-flat T q r K l n part (omega arith))
  where
    -- a store or a flush
    flat : (a : Act) → IsAct T (suc n) a → IsCarried T q (suc n) → front l (a ∷ part_history T K n) ≡ front l (part_history T K n)
    flat a is (inl store) = let e : a ≡ Stores store.line store.what = act-unique T (suc n) a (Stores store.line store.what) is store.is_store in rw e refl
    flat a is (inr flush) = let e : a ≡ Flushes flush.thread flush.line = act-unique T (suc n) a (Flushes flush.thread flush.line) is flush.is_flush in rw e refl

    go : IsNext T K n → front l (part_history T K n) ≡ 0 → front l (part_history T K (suc n)) ≡ 0
    go (Keeps a is has whole own) old = elim ((part.just (suc n)).0 has) [
      | inl carried ↦ ap (front l) own ∙ flat a is carried ∙ old
      | inr later ↦ absurd (omega (arith, by, later.0))
    ]
    go (Drops a is dropped whole own) old = ap (front l) own ∙ old

-- the part has the fronts of the whole, less those at place q
pub front-part : (T : Recording) (q r : ℕ) (K : List ℕ) (l n : ℕ) → IsPart T q r K → n ≤ r → front l (part_history T K n) ≡ front_at T l n - front_at T l q
front-part T q r K l n part within = elim (cases_lt n q) [
  | inl early ↦ omega (arith, carried-flat T q r K l n part (omega arith), front-mono T l n q (omega arith))
  | inr late ↦ onward T q r K (λ h g. front l g ≡ front l h - front_at T l q) part (omega (arith, carried-flat T q r K l q part (omega arith))) each n late within
]
  where
    each : (n : ℕ) (a : Act) → q ≤ n → suc n ≤ r → IsAct T (suc n) a → front l (part_history T K n) ≡ front_at T l n - front_at T l q → front l (a ∷ part_history T K n) ≡ front l (a ∷ history T n) - front_at T l q
    each n (Clflushes k) late by is old = at (k == l)
      where
        at : (b : Bool) → (if b then count l (part_history T K n) else front l (part_history T K n)) ≡ (if b then count_at T l n else front_at T l n) - front_at T l q
        at true = count-part T q r K l n part (omega arith)
        at false = old
    each n (Fences t) late by is old = omega (arith, old, mark-part T q r K t l n part late (omega arith))
    each n a late by is old = old

pub part_fronts : PartFronts
part_fronts = record { front = front-part; count = count-part }
