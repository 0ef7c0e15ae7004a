-- What is kept for a line touches it; a flush is useful exactly where its thread waits for a fence that raises the front.
use Rattle.std.proofs.Common.{◌≡◌, ◌≢◌, ℕ, zero, suc, ◌-◌, ◌<◌, ◌≤◌, ◌⊎◌, inl, inr, ◌==◌, None, refl, sym, ap, subst, ◌∙◌, arith}
use Rattle.std.specs.Prelude.{max, unwrap_or}
use Rattle.std.proofs.lemmas.Bool.{cases_eq, cases_lt, cond-false, ne_eqb}
use Rattle.pmt_laws.specs.Prelude.{Act, Stores, Flushes, Clflushes, Fences, Asserts, count, Recording, IsAct, history, count_at, front, mark, open_mark, front_at, IsUsefulFlush}
use Rattle.pmt_laws.proofs.Histories.{history-act, history-step, front-mono}
use Rattle.pmt_laws.proofs.LastFlushes.{IsLastFlush}
use Rattle.pmt_laws.proofs.KeepLemmas.{front-at_fence, needed-flush}
use Rattle.pmt_marks.proofs.FollowLemmas.{front-fence}
use Rattle.pmt_lines.specs.Jobs.{Touches, ByFlush, ByClflush, ByFence}
use Rattle.pmt_trim.specs.Kept as kept
use Rattle.pmt_trim.specs.Kept.{IsKeptFor}

-- a fence that changes the front has an open mark
pub fence-touches : (T : Recording) (l n t : ℕ) → IsAct T n (Fences t) → front_at T l n ≢ front_at T l (n - 1) → Touches T l n
fence-touches T l zero t is changes = absurd (changes refl)
fence-touches T l (suc n) t is changes = ByFence t is (λ none. changes (unraised none))
  where
    before : suc n - 1 ≡ n
    before = omega arith

    unraised : open_mark t l (history T (suc n - 1)) ≡ None → front_at T l (suc n) ≡ front_at T l (suc n - 1)
    unraised none =
        let closed : open_mark t l (history T n) ≡ None = subst (λ k. open_mark t l (history T k) ≡ None) before none in
        let same : max (front_at T l n) (unwrap_or (open_mark t l (history T n)) 0) ≡ front_at T l n = rw closed (omega arith) in
        ap (front l) (history-act T n (Fences t) is) ∙ front-fence t l (history T n) ∙ same ∙ ap (front_at T l) (sym before)

-- what is kept for a line touches it
pub kept-touches : (T : Recording) (l n : ℕ) → IsKeptFor T l n → Touches T l n
kept-touches T l n (kept.ByFlush u e) = ByFlush u.thread (subst (λ k. IsAct T n (Flushes u.thread k)) e u.is_flush)
kept-touches T l n (kept.ByClflush u e) = ByClflush (subst (λ k. IsAct T n (Clflushes k)) e u.is_clflush)
kept-touches T l n (kept.ByFence t is raises) = fence-touches T l n t is raises

-- an event that changes the front of a line touches it
raising-touches : (T : Recording) (l n : ℕ) (a : Act) → IsAct T (suc n) a → front_at T l (suc n) ≢ front_at T l n → Touches T l (suc n)
raising-touches T l n (Stores k w) is changes = absurd (changes (ap (front l) (history-act T n (Stores k w) is)))
raising-touches T l n (Flushes t k) is changes = absurd (changes (ap (front l) (history-act T n (Flushes t k) is)))
raising-touches T l n (Clflushes k) is changes = go (cases_eq k l)
  where
    go : (k ≡ l) ⊎ (k ≡ l → ⊥) → Touches T l (suc n)
    go (inl e) = ByClflush (subst (λ j. IsAct T (suc n) (Clflushes j)) e is)
    go (inr apart) = absurd (changes (ap (front l) (history-act T n (Clflushes k) is) ∙ cond-false (k == l) (count l (history T n)) (front l (history T n)) (ne_eqb k l apart)))
raising-touches T l n (Fences t) is changes =
    let before : suc n - 1 ≡ n = omega arith in
    fence-touches T l (suc n) t is (λ same. changes (same ∙ ap (front_at T l) before))
raising-touches T l n Asserts is changes = absurd (changes (ap (front l) (history-act T n Asserts is)))

-- an event that doesn't touch a line leaves its front
front-next : (T : Recording) (l n : ℕ) → ¬ Touches T l (suc n) → front_at T l (suc n) ≡ front_at T l n
front-next T l n untouched = go (cases_eq (front_at T l (suc n)) (front_at T l n))
  where
    go : (front_at T l (suc n) ≡ front_at T l n) ⊎ (front_at T l (suc n) ≡ front_at T l n → ⊥) → front_at T l (suc n) ≡ front_at T l n
    go (inl same) = same
    go (inr changes) = elim (history-step T n) [
      | inl x ↦ absurd (untouched (raising-touches T l n x.0 x.1 changes))
      | inr x ↦ ap (front l) x.1
    ]

-- and so do several such events
pub front-stays : (T : Recording) (l low n : ℕ) → low ≤ n → ((k : ℕ) → low < k → k ≤ n → ¬ Touches T l k) → front_at T l n ≡ front_at T l low
front-stays T l low zero h untouched = let e : 0 ≡ low = omega arith in ap (front_at T l) e
front-stays T l low (suc n) h untouched =
    elim (cases_lt n low) [
      | inl past ↦ let e : suc n ≡ low = omega arith in ap (front_at T l) e
      | inr more ↦ front-next T l n (untouched (suc n) (omega arith) (omega arith)) ∙ front-stays T l low n more (λ k a b. untouched k a (omega arith))
    ]

-- After event low, thread t comes to a fence that raises the front of line l, and does not flush the line before.
pub record Awaits (T : Recording) (l t low : ℕ) : Type 0 where
  pub fence : ℕ
  pub later : low < fence
  pub is_fence : IsAct T fence (Fences t)
  pub raises : front_at T l fence ≢ front_at T l (fence - 1)
  pub unflushed : (k : ℕ) → low < k → k < fence → ¬ IsAct T k (Flushes t l)

-- the flush through which that fence raises the front
pub awaited-flush : (T : Recording) (l t n : ℕ) → IsAct T (suc n) (Fences t) → front_at T l (suc n) ≢ front_at T l n →
    (front_at T l n < mark t l (history T n)) × ((i : ℕ) × IsLastFlush T t l n i)
awaited-flush T l t n is changes =
    let same : front_at T l (suc n) ≡ max (front_at T l n) (mark t l (history T n)) = ap (front l) (history-act T n (Fences t) is) in
    let raised : front_at T l n < mark t l (history T n) = go same (cases_lt (front_at T l n) (mark t l (history T n))) in
    let found = needed-flush T t l n is raised in
    (raised, (found.0, found.2))
  where
    go : front_at T l (suc n) ≡ max (front_at T l n) (mark t l (history T n)) → (front_at T l n < mark t l (history T n)) ⊎ (mark t l (history T n) ≤ front_at T l n) →
        front_at T l n < mark t l (history T n)
    go same (inl h) = h
    go same (inr h) = absurd (changes (omega (arith, same)))

-- it is the thread's next fence
pub awaits-unfenced : (T : Recording) (l t low : ℕ) → (a : Awaits T l t low) → (k : ℕ) → low < k → k < a.fence → ¬ IsAct T k (Fences t)
awaits-unfenced T l t low a k above below is = go a.fence a.later a.is_fence a.raises a.unflushed below
  where
    go : (j : ℕ) → low < j → IsAct T j (Fences t) → front_at T l j ≢ front_at T l (j - 1) → ((i : ℕ) → low < i → i < j → ¬ IsAct T i (Flushes t l)) → k < j → ⊥
    go zero later fence raises unflushed before = omega arith
    go (suc n) later fence raises unflushed before =
        let e : suc n - 1 ≡ n = omega arith in
        let found = awaited-flush T l t n fence (subst (λ m. front_at T l (suc n) ≢ front_at T l m) e raises) in
        let i = found.1.0 in
        let last = found.1.1 in
        let early : i ≤ low = up i last (cases_lt low i) in
        let up : count_at T l i ≤ front_at T l k = front-at_fence T t l i k last.is_flush is (omega arith) in
        let on : front_at T l k ≤ front_at T l n = front-mono T l k n (omega arith) in
        omega (arith, last.stores, found.0)
      where
        up : (i : ℕ) → IsLastFlush T t l n i → (low < i) ⊎ (i ≤ low) → i ≤ low
        up i last (inl h) = absurd (unflushed i h (let b : i ≤ n = last.by_now in omega arith) last.is_flush)
        up i last (inr h) = h

-- a useful flush waits for its fence
pub useful-awaits : (T : Recording) (l i : ℕ) → (u : IsUsefulFlush T i) → u.line ≡ l → Awaits T l u.thread i
useful-awaits T l i u e =
    record {
      fence = u.fence;
      later = u.later;
      is_fence = u.is_fence;
      raises = λ same.
          let up : count_at T l i ≤ front_at T l u.fence = front-at_fence T u.thread l i u.fence (subst (λ k. IsAct T i (Flushes u.thread k)) e u.is_flush) u.is_fence u.later in
          let needed : front_at T l (u.fence - 1) < count_at T l i = subst (λ k. front_at T k (u.fence - 1) < count_at T k i) e u.needed in
          omega (arith, same);
      unflushed = λ k above below is. u.last_flush k above below (subst (λ j. IsAct T k (Flushes u.thread j)) (sym e) is);
    }

-- a flush whose thread waits is useful
pub awaits-useful : (T : Recording) (l t i : ℕ) → IsAct T i (Flushes t l) → Awaits T l t i → (u : IsUsefulFlush T i) × (u.line ≡ l)
awaits-useful T l t i flush a = (
  record {
    thread = t;
    line = l;
    fence = a.fence;
    is_flush = flush;
    is_fence = a.is_fence;
    later = a.later;
    next_fence = λ k above below is. awaits-unfenced T l t i a k above below is;
    last_flush = a.unflushed;
    needed = needed a.fence a.later a.is_fence a.raises a.unflushed;
  },
  refl,
)
  where
    needed : (j : ℕ) → i < j → IsAct T j (Fences t) → front_at T l j ≢ front_at T l (j - 1) → ((k : ℕ) → i < k → k < j → ¬ IsAct T k (Flushes t l)) → front_at T l (j - 1) < count_at T l i
    needed zero later fence raises unflushed = absurd (omega arith)
    needed (suc n) later fence raises unflushed =
        let e : suc n - 1 ≡ n = omega arith in
        let found = awaited-flush T l t n fence (subst (λ m. front_at T l (suc n) ≢ front_at T l m) e raises) in
        let last = found.1.1 in
        let same : found.1.0 ≡ i = only found.1.0 last (cases_lt found.1.0 i) (cases_lt i found.1.0) in
        let counts : count_at T l i ≡ mark t l (history T n) = ap (count_at T l) (sym same) ∙ last.stores in
        rw e (omega (arith, found.0, counts))
      where
        only : (k : ℕ) → IsLastFlush T t l n k → (k < i) ⊎ (i ≤ k) → (i < k) ⊎ (k ≤ i) → k ≡ i
        only k last (inl before) other = absurd (last.none_later i before (omega arith) flush)
        only k last (inr h) (inl after) = absurd (unflushed k after (let b : k ≤ n = last.by_now in omega arith) last.is_flush)
        only k last (inr h) (inr g) = omega arith
