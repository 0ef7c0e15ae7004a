-- A trimmed trace has no redundant flush and no fence without flush.
use Rattle.std.proofs.Common.{◌≡◌, ◌≢◌, ℕ, zero, suc, ◌-◌, ◌<◌, ◌≤◌, max, ◌⊎◌, inl, inr, List, sym, ap, subst, ◌∙◌, arith, true≢false, ⊎_elim}
use Rattle.std.proofs.lemmas.Bool.{cases_lt, cases_eq}
use Rattle.pmt_laws.specs.Prelude.{Flushes, Clflushes, Fences, Stores, count, Written, Recording, IsAct, history, count_at, front, mark, front_at, Has, IsSelection, always_stays, cut, matching_place, IsSafe, IsCovered, IsRedundantFlush, IsRedundantClflush, IsEmptyFence}
use Rattle.pmt_model.specs.Keeping.{IsKept, Stays, ByFence, ByFlush, ByClflush, IsKeep}
use Rattle.pmt_laws.specs.ModelLaws.{TrimmedHasNoWaste}
use Rattle.pmt_laws.proofs.Histories.{act-unique, history-act, front-le-count, front-mono}
use Rattle.pmt_laws.proofs.BoxLemmas.{front-flush_now}
use Rattle.pmt_laws.proofs.CutLemmas.{cut-act, count-cut}
use Rattle.pmt_laws.proofs.CutActs.{IsOrigin, act-origin, origin-earlier, earlier-origin, earlier-selected}
use Rattle.pmt_laws.proofs.KeepLemmas.{keep_is_selection, keep_fronts, needed-flush, front-at_fence}
use Rattle.pmt_laws.proofs.NeededFlushes.{IsNeededFlush, kept-needed, needing-kept}
use Rattle.pmt_laws.proofs.NewStores.{last-store, unsafe-store}

-- where a line of the trace has more stores than its front, some store to it before the kept event is not safe
new-store : (T : Recording) (K : List ℕ) (l n : ℕ) → IsKeep T K → front_at T l n < count_at T l n →
    (j : ℕ) × (w : Written) × (j < suc (matching_place K n)) × IsAct (cut T K) j (Stores l w) × (¬ IsSafe (cut T K) l (matching_place K n) j)
new-store T K l n keep above =
    let same_count = count-cut T K l n (keep_is_selection T K keep) in
    let same_front = keep_fronts T K l n keep in
    let store = last-store (cut T K) l (matching_place K n) (omega arith) in
    (store.number, store.what, omega (arith, store.by_now), store.is_store, unsafe-store (cut T K) l (matching_place K n) store.number (omega (arith, store.stores)))

-- a kept clflush waits for more stores than the front before
kept-clflush : (T : Recording) (l n : ℕ) → IsKept T (suc n) → IsAct T (suc n) (Clflushes l) → front_at T l n < count_at T l n
kept-clflush T l n (Stays a is stays) clflush = absurd (true≢false (sym stays ∙ ap always_stays (act-unique T (suc n) a (Clflushes l) is clflush)))
kept-clflush T l n (ByFence u) clflush = let same = act-unique T (suc n) (Fences u.thread) (Clflushes l) u.is_fence clflush in cc
kept-clflush T l n (ByFlush u) clflush = let same = act-unique T (suc n) (Flushes u.thread u.line) (Clflushes l) u.is_flush clflush in cc
kept-clflush T l n (ByClflush u) clflush =
    let same = act-unique T (suc n) (Clflushes u.line) (Clflushes l) u.is_clflush clflush in
    let line : u.line ≡ l = cc in
    let before : suc n - 1 ≡ n = omega arith in
    let raises : front_at T l (suc n) ≢ front_at T l n = rw before at (subst (λ k. front_at T k (suc n) ≢ front_at T k (suc n - 1)) line u.raises) in
    let now : front_at T l (suc n) ≡ count_at T l n = ap (front l) (history-act T n (Clflushes l) clflush) ∙ front-flush_now l (history T n) in
    omega (arith, front-le-count l (history T n))

-- a kept clflush is not redundant
clflush-not_redundant : (T : Recording) (K : List ℕ) (l n : ℕ) → IsKeep T K → Has K (suc n) → IsAct T (suc n) (Clflushes l) →
    ¬ IsRedundantClflush (cut T K) l (suc (matching_place K n))
clflush-not_redundant T K l n keep has clflush redundant =
    let store = new-store T K l n keep (kept-clflush T l n ((keep.just (suc n)).0 has) clflush) in
    let before : suc (matching_place K n) - 1 ≡ matching_place K n = omega arith in
    store.4 (subst (λ m. IsSafe (cut T K) l m store.0) before (redundant.nothing_new store.0 store.1 store.2 store.3))

-- no earlier kept flush marks the stores of a kept flush for the same fence
flush-not_covered : (T : Recording) (K : List ℕ) (t l n j : ℕ) → IsKeep T K → Has K (suc n) → IsAct T (suc n) (Flushes t l) →
    ¬ IsCovered (cut T K) t l j (suc (matching_place K n))
flush-not_covered T K t l n j keep has flush covered = go (cases_lt f.before n) (cases_eq f.before n)
  where
    selection : IsSelection T K
    selection = keep_is_selection T K keep

    o : IsOrigin T K covered.flush (Flushes t l)
    o = act-origin T K covered.flush (Flushes t l) selection covered.is_flush

    earlier : o.before < n
    earlier = earlier-origin K o.before n (omega (arith, o.place, covered.before))

    f : IsNeededFlush T t l (suc o.before)
    f = kept-needed T t l (suc o.before) ((keep.just (suc o.before)).0 o.has) o.is_act

    fence_kept : Has K (suc f.before)
    fence_kept = needing-kept T K t l (suc o.before) keep f

    go : (f.before < n) ⊎ (n ≤ f.before) → (f.before ≡ n) ⊎ (f.before ≡ n → ⊥) → ⊥
    go (inl fenced) x =
        let after : matching_place K o.before < matching_place K f.before = earlier-selected T K o.before f.before selection o.has (omega (arith, f.later)) in
        let by : matching_place K f.before < matching_place K n = earlier-selected T K f.before n selection fence_kept fenced in
        covered.unfenced (suc (matching_place K f.before)) (omega (arith, o.place)) (omega arith) (cut-act T K f.before (Fences t) selection fence_kept f.is_fence)
    go (inr late) (inl same) = let acts = act-unique T (suc n) (Fences t) (Flushes t l) (subst (λ m. IsAct T (suc m) (Fences t)) same f.is_fence) flush in cc
    go (inr late) (inr apart) = f.last_flush (suc n) (omega (arith, earlier)) (omega arith) flush

-- a kept flush is not redundant
flush-not_redundant : (T : Recording) (K : List ℕ) (t l n : ℕ) → IsKeep T K → Has K (suc n) → IsAct T (suc n) (Flushes t l) →
    ¬ IsRedundantFlush (cut T K) t l (suc (matching_place K n))
flush-not_redundant T K t l n keep has flush redundant =
    let f = kept-needed T t l (suc n) ((keep.just (suc n)).0 has) flush in
    let marks : count_at T l (suc n) ≡ count_at T l n = ap (count l) (history-act T n (Flushes t l) flush) in
    let above : front_at T l n < count_at T l n = omega (arith, f.needed, f.later, front-mono T l n f.before) in
    let store = new-store T K l n keep above in
    let before : suc (matching_place K n) - 1 ≡ matching_place K n = omega arith in
    ⊎_elim
    (λ (safe : IsSafe (cut T K) l (suc (matching_place K n) - 1) store.0). store.4 (subst (λ m. IsSafe (cut T K) l m store.0) before safe))
    (λ (covered : IsCovered (cut T K) t l store.0 (suc (matching_place K n))). flush-not_covered T K t l n store.0 keep has flush covered)
    (redundant.nothing_new store.0 store.1 store.2 store.3)

-- a kept fence raises the front of some line
kept-fence : (T : Recording) (t n : ℕ) → IsKept T (suc n) → IsAct T (suc n) (Fences t) → (l : ℕ) × (front_at T l n < front_at T l (suc n))
kept-fence T t n (Stays a is stays) fence = absurd (true≢false (sym stays ∙ ap always_stays (act-unique T (suc n) a (Fences t) is fence)))
kept-fence T t n (ByFence u) fence =
    let before : suc n - 1 ≡ n = omega arith in
    let raises : front_at T u.line (suc n) ≢ front_at T u.line n = rw before at u.raises in
    (u.line, omega (arith, front-mono T u.line n (suc n)))
kept-fence T t n (ByFlush u) fence = let same = act-unique T (suc n) (Flushes u.thread u.line) (Fences t) u.is_flush fence in cc
kept-fence T t n (ByClflush u) fence = let same = act-unique T (suc n) (Clflushes u.line) (Fences t) u.is_clflush fence in cc

-- with a kept flush of more stores than the front before it, a fence is not empty
flushed-not_empty : (T : Recording) (K : List ℕ) (l i x : ℕ) → IsSelection T K → (e : IsEmptyFence (cut T K) i) → (o : IsOrigin T K i (Fences e.thread)) →
    Has K x → IsAct T x (Flushes e.thread l) → x ≤ o.before → front_at T l o.before < count_at T l x → ⊥
flushed-not_empty T K l i zero selection e o has flush by above = omega arith
flushed-not_empty T K l i (suc q) selection e o has flush by above =
    let before : suc (matching_place K q) < i = omega (arith, o.place, earlier-selected T K q o.before selection has by) in
    let fence = e.nothing (suc (matching_place K q)) l before (cut-act T K q (Flushes e.thread l) selection has flush) in
    let p = act-origin T K fence.0 (Fences e.thread) selection fence.3 in
    let after : q < p.before = earlier-origin K q p.before (omega (arith, p.place, fence.1)) in
    let by_now : p.before < o.before = origin-earlier T K fence.0 i (Fences e.thread) (Fences e.thread) p o fence.2 in
    omega (arith, front-at_fence T e.thread l (suc q) (suc p.before) flush p.is_act (omega arith), front-mono T l (suc p.before) o.before by_now)

-- a kept fence has a flush to wait for
fence-not_empty : (T : Recording) (K : List ℕ) (i : ℕ) → IsKeep T K → ¬ IsEmptyFence (cut T K) i
fence-not_empty T K i keep e =
    let selection = keep_is_selection T K keep in
    let o = act-origin T K i (Fences e.thread) selection e.is_fence in
    let raised = kept-fence T e.thread o.before ((keep.just (suc o.before)).0 o.has) o.is_act in
    let at_fence : front_at T raised.0 (suc o.before) ≡ max (front_at T raised.0 o.before) (mark e.thread raised.0 (history T o.before)) =
    ap (front raised.0) (history-act T o.before (Fences e.thread) o.is_act) in
    let flush = needed-flush T e.thread raised.0 o.before o.is_act (omega (arith, raised.1)) in
    flushed-not_empty T K raised.0 i flush.0 selection e o ((keep.just flush.0).1 (ByFlush flush.1)) flush.2.is_flush flush.2.by_now (omega (arith, raised.1, flush.2.stores))

-- a trimmed trace has no redundant flush and no fence without flush
pub no_waste : TrimmedHasNoWaste
no_waste T K keep = record { flushes = no_flush; clflushes = no_clflush; fences = λ i. fence-not_empty T K i keep }
  where
    no_flush : (t l i : ℕ) → ¬ IsRedundantFlush (cut T K) t l i
    no_flush t l i r =
        let o = act-origin T K i (Flushes t l) (keep_is_selection T K keep) r.is_flush in
        flush-not_redundant T K t l o.before keep o.has o.is_act (subst (IsRedundantFlush (cut T K) t l) (sym o.place) r)

    no_clflush : (l i : ℕ) → ¬ IsRedundantClflush (cut T K) l i
    no_clflush l i r =
        let o = act-origin T K i (Clflushes l) (keep_is_selection T K keep) r.is_clflush in
        clflush-not_redundant T K l o.before keep o.has o.is_act (subst (IsRedundantClflush (cut T K) l) (sym o.place) r)
