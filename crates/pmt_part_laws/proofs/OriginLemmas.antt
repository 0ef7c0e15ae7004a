-- Flushes and fences of a trace, and those of the trace cut to a part.
use Rattle.pmt_part_laws.proofs.Prelude.{◌≡◌, ℕ, ◌<◌, ◌≤◌, inl, inr, List, refl, sym, subst, le_antisymm, arith, ◌⊎◌, cases_lt, Written, Act, Stores, Flushes, Clflushes, Fences, Recording, IsAct, history, count_at, mark, front_at, IsFlushOf, ByFlush, ByClflush, Has, cut, matching_place, act-unique, count-mono, mark-greatest, completed-le_front, IsLastFlush, last-flush, kept-act, act-origin, placed-by, IsCarried, IsPart}
use Rattle.pmt_part_laws.proofs.StepLemmas.{part-subsequence, has-stretch, kept-store}
use Rattle.pmt_part_laws.proofs.FrontLemmas.{last-kept}

-- an act of the part is that of the event that it comes from
pub act-back : (T : Recording) (q r : ℕ) (K : List ℕ) (k : ℕ) (a : Act) → IsPart T q r K → Has K k → IsAct (cut T K) (matching_place K k) a → IsAct T k a
act-back T q r K k a part has is =
    let s = part-subsequence T q r K part in
    let o = act-origin T K (matching_place K k) a s is in
    let same : o.number ≡ k = le_antisymm (placed-by T K o.number k s o.chosen (omega (arith, o.place))) (placed-by T K k o.number s has (omega (arith, o.place))) in
    subst (λ i. IsAct T i a) same o.is_act

-- an event of the part up to place q is carried
pub carried-before : (T : Recording) (q r : ℕ) (K : List ℕ) (k : ℕ) → IsPart T q r K → Has K k → k ≤ q → IsCarried T q k
carried-before T q r K k part has by = go ((part.just k).0 has)
  where
    go : IsCarried T q k ⊎ ((q < k) × (k ≤ r)) → IsCarried T q k
    go (inl carried) = carried
    go (inr x) = absurd (omega (arith, x.0, by))

-- a flush that is carried is the last one of its line by its thread, and no fence has come
pub carried-flush : (T : Recording) (q r : ℕ) (K : List ℕ) (t l k : ℕ) → IsPart T q r K → Has K k → k ≤ q → IsAct T k (Flushes t l) →
    ((j : ℕ) → k < j → j ≤ q → ¬ IsAct T j (Flushes t l)) × ((j : ℕ) → k < j → j ≤ q → ¬ IsAct T j (Fences t))
carried-flush T q r K t l k part has by is = go (carried-before T q r K k part has by)
  where
    go : IsCarried T q k → ((j : ℕ) → k < j → j ≤ q → ¬ IsAct T j (Flushes t l)) × ((j : ℕ) → k < j → j ≤ q → ¬ IsAct T j (Fences t))
    go (inl store) = let same = act-unique T k (Stores store.line store.what) (Flushes t l) store.is_store is in absurd cc
    go (inr flush) =
        let same = act-unique T k (Flushes flush.thread flush.line) (Flushes t l) flush.is_flush is in
        let thread : flush.thread ≡ t = cc in
        let line : flush.line ≡ l = cc in (
          λ j after before at. flush.last j after before (subst (λ u. IsAct T j (Flushes u flush.line)) (sym thread) (subst (λ m. IsAct T j (Flushes t m)) (sym line) at)),
          λ j after before at. flush.unfenced j after before (subst (λ u. IsAct T j (Fences u)) (sym thread) at),
        )

-- a fence by the thread of a flush of the part, after it, is in the part
pub fence-kept : (T : Recording) (q r : ℕ) (K : List ℕ) (t l k j : ℕ) → IsPart T q r K → Has K k → IsAct T k (Flushes t l) → k < j → j ≤ r → IsAct T j (Fences t) → (q < j) × Has K j
fence-kept T q r K t l k j part has is after within fence = elim (cases_lt q j) [
  | inl late ↦ (late, has-stretch T q r K j part late within)
  | inr early ↦ absurd ((carried-flush T q r K t l k part has (omega arith) is).1 j after early fence)
]

-- and so is a further flush of its line by its thread
pub again-kept : (T : Recording) (q r : ℕ) (K : List ℕ) (t l k j : ℕ) → IsPart T q r K → Has K k → IsAct T k (Flushes t l) → k < j → j ≤ r → IsAct T j (Flushes t l) → (q < j) × Has K j
again-kept T q r K t l k j part has is after within again = elim (cases_lt q j) [
  | inl late ↦ (late, has-stretch T q r K j part late within)
  | inr early ↦ absurd ((carried-flush T q r K t l k part has (omega arith) is).0 j after early again)
]

-- a fence of the part comes after place q
pub late-fence : (T : Recording) (q r : ℕ) (K : List ℕ) (t k : ℕ) → IsPart T q r K → Has K k → IsAct T k (Fences t) → q < k
late-fence T q r K t k part has is = go ((part.just k).0 has)
  where
    go : IsCarried T q k ⊎ ((q < k) × (k ≤ r)) → q < k
    go (inl (inl store)) = let same = act-unique T k (Stores store.line store.what) (Fences t) store.is_store is in absurd cc
    go (inl (inr flush)) = let same = act-unique T k (Flushes flush.thread flush.line) (Fences t) flush.is_flush is in absurd cc
    go (inr x) = x.0

-- and so does a clflush
pub late-clflush : (T : Recording) (q r : ℕ) (K : List ℕ) (l k : ℕ) → IsPart T q r K → Has K k → IsAct T k (Clflushes l) → q < k
late-clflush T q r K l k part has is = go ((part.just k).0 has)
  where
    go : IsCarried T q k ⊎ ((q < k) × (k ≤ r)) → q < k
    go (inl (inl store)) = let same = act-unique T k (Stores store.line store.what) (Clflushes l) store.is_store is in absurd cc
    go (inl (inr flush)) = let same = act-unique T k (Flushes flush.thread flush.line) (Clflushes l) flush.is_flush is in absurd cc
    go (inr x) = x.0

-- where a flush of a line comes after a store of the part to it, a flush of the line in the part does
pub flushed-kept : (T : Recording) (q r : ℕ) (K : List ℕ) (l j k n : ℕ) (w : Written) → IsPart T q r K → Has K j → IsAct T j (Stores l w) → q ≤ n → n ≤ r → j < k → k ≤ n → IsFlushOf T l k →
    (m : ℕ) × (j < m) × (m ≤ n) × Has K m × IsFlushOf T l m
flushed-kept T q r K l j k n w part has is after within later by flush = elim (cases_lt q k) [
  | inl late ↦ (k, later, by, has-stretch T q r K k part late (omega (arith, by, within)), flush)
  | inr early ↦ go early flush
]
  where
    above : front_at T l q < count_at T l k
    above = omega (arith, kept-store T q r K l j w part has is, count-mono T l j k (omega (arith, later)))

    last : (t : ℕ) → k ≤ q → IsAct T k (Flushes t l) → (mark t l (history T q) ≡ 0) ⊎ ((i : ℕ) × IsLastFlush T t l q i) → (m : ℕ) × (j < m) × (m ≤ n) × Has K m × IsFlushOf T l m
    last t early at (inl none) = absurd (omega (arith, above, none, mark-greatest T t l k q at early))
    last t early at (inr (i, found)) =
        let since : k ≤ i = elim (cases_lt i k) [ inl before ↦ absurd (found.none_later k before early at) | inr more ↦ more ] in
        let counts : front_at T l q < count_at T l i = omega (arith, above, count-mono T l k i since) in
        (i, omega (arith, later, since), omega (arith, found.by_now, after), last-kept T q r K t l q i part (omega arith) part.order found counts, ByFlush t found.is_flush)

    go : k ≤ q → IsFlushOf T l k → (m : ℕ) × (j < m) × (m ≤ n) × Has K m × IsFlushOf T l m
    go early (ByFlush t at) = last t early at (last-flush T t l q)
    go early (ByClflush at) =
        absurd (omega (arith, above, completed-le_front T l q (count_at T l k) (inr (record { clflush = k; is_clflush = at; by_now = early; stores = refl }))))

-- a flush of a line in the part is one of the whole
pub flush-origin : (T : Recording) (q r : ℕ) (K : List ℕ) (l i : ℕ) → IsPart T q r K → IsFlushOf (cut T K) l i → (k : ℕ) × Has K k × (matching_place K k ≡ i) × IsFlushOf T l k
flush-origin T q r K l i part (ByFlush t is) = let o = act-origin T K i (Flushes t l) (part-subsequence T q r K part) is in (o.number, o.chosen, o.place, ByFlush t o.is_act)
flush-origin T q r K l i part (ByClflush is) = let o = act-origin T K i (Clflushes l) (part-subsequence T q r K part) is in (o.number, o.chosen, o.place, ByClflush o.is_act)

-- and the other way round
pub flush-kept : (T : Recording) (q r : ℕ) (K : List ℕ) (l k : ℕ) → IsPart T q r K → Has K k → IsFlushOf T l k → IsFlushOf (cut T K) l (matching_place K k)
flush-kept T q r K l k part has (ByFlush t is) = ByFlush t (kept-act T K k (Flushes t l) (part-subsequence T q r K part) has is)
flush-kept T q r K l k part has (ByClflush is) = ByClflush (kept-act T K k (Clflushes l) (part-subsequence T q r K part) has is)
