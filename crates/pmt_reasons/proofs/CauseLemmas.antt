-- A store is pending at a place exactly where one of the three causes holds, and then just one.
use Rattle.std.proofs.Common.{◌≡◌, ℕ, zero, suc, ◌<◌, ◌≤◌, ◌⊎◌, inl, inr, Option, None, Some, refl, ap, subst, ◌∙◌, arith}
use Rattle.std.proofs.lemmas.Bool.{cases_lt}
use Rattle.std.proofs.lemmas.Bool.Decides.{nat_tests}
use Rattle.pmt_laws.specs.Prelude.{Written, Act, Stores, Flushes, Clflushes, Fences, count, Recording, IsAct, history, count_at, front_at, IsFlushOf, ByFlush, ByClflush}
use Rattle.pmt_laws.proofs.Histories.{act-unique, act-within, history-act, count-mono, front-le-count}
use Rattle.pmt_laws.proofs.BoxLemmas.{ends-box, count-store}
use Rattle.pmt_laws.proofs.SameFronts.{fronts-are-vectors}
use Rattle.pmt_laws.proofs.FrontLemmas.{front-reached, completed-le_front}
use Rattle.pmt_reasons.specs.declared.cause.Cause.{Cause}
use Rattle.pmt_reasons.specs.declared.cause.Cause.TheVariants.{Later, Unflushed, Unfenced}
use Rattle.pmt_reasons.specs.Causes.{with_first, with_flush, with_fence, IsUnflushed, IsFirstFenceAt, IsFirstFence, IsUnfenced, IsCause, PendingByFronts}

-- a store is pending exactly where its rank is above the front
pub pending_by_fronts : PendingByFronts
pending_by_fronts T l n i = (
  λ p. let box = ends-box (history T n) p.end p.ends in omega (arith, p.missing, (box l).0),
  λ above. let run = fronts-are-vectors (history T n) in record {
    end = run.0;
    ends = run.1;
    missing = omega (arith, run.2 l, above);
  },
)

-- a store's rank is one more than the number of stores before it
pub rank-store : (T : Recording) (l m : ℕ) (w : Written) → IsAct T (suc m) (Stores l w) → count_at T l (suc m) ≡ suc (count_at T l m)
rank-store T l m w is = ap (count l) (history-act T m (Stores l w) is) ∙ count-store l l w (history T m) refl

-- fewer stores come by an earlier place than by a store
pub rank-above : (T : Recording) (l n i : ℕ) (w : Written) → IsAct T i (Stores l w) → n < i → count_at T l n < count_at T l i
rank-above T l n zero w is before = absurd (omega arith)
rank-above T l n (suc m) w is before = omega (arith, rank-store T l m w is, count-mono T l n m (omega arith))

-- a flush that marks a store comes after it
pub marks-later : (T : Recording) (l i j : ℕ) (w : Written) (a : Act) → IsAct T i (Stores l w) → IsAct T j a → (Stores l w ≡ a → ⊥) → count_at T l i ≤ count_at T l j → i < j
marks-later T l i j w a store flush apart marks = go (cases_lt i j)
  where
    go : (i < j) ⊎ (j ≤ i) → i < j
    go (inl before) = before
    go (inr behind) = again (cases_lt j i)
      where
        again : (j < i) ⊎ (i ≤ j) → i < j
        again (inl earlier) = absurd (omega (arith, rank-above T l j i w store earlier))
        again (inr equal) =
            let e : j ≡ i = omega arith in
            let P : ℕ → Type 0 = λ k. IsAct T k a in
            absurd (apart (act-unique T i (Stores l w) a store (subst P e flush)))

-- a store is safe from the first clflush of its line on
pub safe-clflush : (T : Recording) (l n i k : ℕ) → IsAct T k (Clflushes l) → i < k → k ≤ n → count_at T l i ≤ front_at T l n
safe-clflush T l n i k is after by_now =
    let front = completed-le_front T l n (count_at T l k) (inr (record { clflush = k; is_clflush = is; by_now = by_now; stores = refl })) in
    omega (arith, front, count-mono T l i k (omega arith))

-- and from the first fence on whose thread has flushed its line since
pub safe-fence : (T : Recording) (l n i t j k : ℕ) → IsAct T j (Flushes t l) → IsAct T k (Fences t) → i < j → j < k → k ≤ n → count_at T l i ≤ front_at T l n
safe-fence T l n i t j k flush fence after later by_now =
    let front = completed-le_front T l n (count_at T l j)
    (inl (record { thread = t; flush = j; fence = k; is_flush = flush; is_fence = fence; later = later; by_now = by_now; stores = refl })) in
    omega (arith, front, count-mono T l i j (omega arith))

-- where neither stands among the events after a store, it is not safe
pub unsafe-store : (T : Recording) (l n i : ℕ) (w : Written) → IsAct T i (Stores l w) →
    ((k : ℕ) → i < k → k ≤ n → ¬ IsAct T k (Clflushes l)) →
    ((t j k : ℕ) → i < j → j < k → k ≤ n → IsAct T j (Flushes t l) → ¬ IsAct T k (Fences t)) → front_at T l n < count_at T l i
unsafe-store T l n i w store no_clflush unfenced = go (cases_lt (front_at T l n) (count_at T l i))
  where
    go : (front_at T l n < count_at T l i) ⊎ (count_at T l i ≤ front_at T l n) → front_at T l n < count_at T l i
    go (inl above) = above
    go (inr safe) = elim (front-reached T l n) [
      | inl none ↦ omega (arith, rank-above T l 0 i w store (act-within T i (Stores l w) store).0)
      | inr done ↦ elim done [
        | inl x ↦
            let after = marks-later T l i x.flush w (Flushes x.thread l) store x.is_flush (λ e. cc) (omega (arith, x.stores)) in
            absurd (unfenced x.thread x.flush x.fence after x.later x.by_now x.is_flush x.is_fence)
        | inr x ↦
            let after = marks-later T l i x.clflush w (Clflushes l) store x.is_clflush (λ e. cc) (omega (arith, x.stores)) in
            absurd (no_clflush x.clflush after x.by_now x.is_clflush)
      ]
    ]

-- where there is no flush at all, none is fenced
unflushed-unfenced : (T : Recording) (l i n : ℕ) → IsUnflushed T l i n → (t j k : ℕ) → i < j → j < k → k ≤ n → IsAct T j (Flushes t l) → ¬ IsAct T k (Fences t)
unflushed-unfenced T l i n none t j k after later by_now flush fence = none j after (omega arith) (ByFlush t flush)

-- a store with a cause has a rank above the front
pub cause-unsafe : (T : Recording) (l n i : ℕ) (w : Written) (c : Cause) → IsAct T i (Stores l w) → IsCause T l n i c → front_at T l n < count_at T l i
cause-unsafe T l n i w Later store later = omega (arith, rank-above T l n i w store later, front-le-count l (history T n))
cause-unsafe T l n i w Unflushed store why =
    unsafe-store T l n i w store (λ k after by_now is. why.1 k after by_now (ByClflush is)) (unflushed-unfenced T l i n why.1)
cause-unsafe T l n i w (Unfenced flush thread other) store why = unsafe-store T l n i w store why.1.no_clflush why.1.unfenced

-- a flush of the line by the thread stands among the events after event i up to n
abbrev pub IsFlushedBy : Recording → ℕ → ℕ → ℕ → ℕ → Type 0
IsFlushedBy T l i n t = (j : ℕ) × (i < j) × (j ≤ n) × IsAct T j (Flushes t l)

-- what holds up to a place and at the next one holds up to that one
until-next : (P : ℕ → Type 0) (i n : ℕ) → ((k : ℕ) → i < k → k ≤ n → P k) → P (suc n) → (k : ℕ) → i < k → k ≤ suc n → P k
until-next P i n before next k after by_now = grind (arith, nat_tests, cases_lt)

-- one more event that is no flush of the line
unflushed-next : (T : Recording) (l i n : ℕ) → IsUnflushed T l i n → ¬ IsFlushOf T l (suc n) → IsUnflushed T l i (suc n)
unflushed-next T l i n before next = until-next (λ k. ¬ IsFlushOf T l k) i n before next

-- one more event that makes nothing safe
unfenced-next : (T : Recording) (l i n flush thread : ℕ) (old new : Option ℕ) → IsUnfenced T l i n flush thread old → ¬ IsAct T (suc n) (Clflushes l) →
    ((t : ℕ) → IsAct T (suc n) (Fences t) → ¬ IsFlushedBy T l i n t) → IsFirstFence T flush (suc n) new → IsUnfenced T l i (suc n) flush thread new
unfenced-next T l i n flush thread old new x no_clflush unfenced fence = record {
  is_flush = x.is_flush;
  after = x.after;
  by_now = omega (arith, x.by_now);
  first = x.first;
  no_clflush = until-next (λ k. ¬ IsAct T k (Clflushes l)) i n x.no_clflush no_clflush;
  unfenced = λ t j k after later by_now is.
      until-next (λ k. j < k → ¬ IsAct T k (Fences t)) i n
      (λ m past within below. x.unfenced t j m after below within is)
      (λ below at. unfenced t at (j, after, omega arith, is))
      k (omega arith) by_now later;
  first_fence = fence;
}

-- the first fence stays the first one
fence-stays : (T : Recording) (i n j : ℕ) → IsFirstFenceAt T i n j → IsFirstFenceAt T i (suc n) j
fence-stays T i n j x = record { thread = x.thread; is_fence = x.is_fence; after = x.after; by_now = omega (arith, x.by_now); none_before = x.none_before }

-- one more event that is no fence
pub fence-other : (T : Recording) (i n : ℕ) (o : Option ℕ) → IsFirstFence T i n o → ((t : ℕ) → ¬ IsAct T (suc n) (Fences t)) → IsFirstFence T i (suc n) o
fence-other T i n None x next = λ k t after by_now. until-next (λ m. ¬ IsAct T m (Fences t)) i n (λ m past within. x m t past within) (next t) k after by_now
fence-other T i n (Some j) x next = fence-stays T i n j x

-- one more fence
pub fence-next : (T : Recording) (i n t : ℕ) (o : Option ℕ) → i ≤ n → IsFirstFence T i n o → IsAct T (suc n) (Fences t) → IsFirstFence T i (suc n) (with_first (suc n) o)
fence-next T i n t None within x is = record {
  thread = t;
  is_fence = is;
  after = omega arith;
  by_now = omega arith;
  none_before = λ k u after before. x k u after (omega arith);
}
fence-next T i n t (Some j) within x is = fence-stays T i n j x

-- one more flush of the line
pub cause-flush : (T : Recording) (l n i t : ℕ) (c : Cause) → IsAct T (suc n) (Flushes t l) → i ≤ n → IsCause T l n i c → IsCause T l (suc n) i (with_flush (suc n) t c)
cause-flush T l n i t Later is within why = absurd (omega arith)
cause-flush T l n i t Unflushed is within why = (
  omega arith,
  record {
    is_flush = is;
    after = omega arith;
    by_now = omega arith;
    first = λ k after before. why.1 k after (omega arith);
    no_clflush = until-next (λ k. ¬ IsAct T k (Clflushes l)) i n (λ k after by_now at. why.1 k after by_now (ByClflush at)) (λ at. let same = act-unique T (suc n) (Flushes t l) (Clflushes l) is at in cc);
    unfenced = λ u j k after later by_now flush. absurd (elim (cases_lt j (suc n)) [
      | inl early ↦ why.1 j after (omega arith) (ByFlush u flush)
      | inr late ↦ omega arith
    ]);
    first_fence = λ k u after by_now. absurd (omega arith);
  },
)
cause-flush T l n i t (Unfenced flush thread other) is within why = (
  omega arith,
  unfenced-next T l i n flush thread other other why.1 (λ at. let same = act-unique T (suc n) (Flushes t l) (Clflushes l) is at in cc)
      (λ u at. let same = act-unique T (suc n) (Flushes t l) (Fences u) is at in cc)
      (fence-other T flush n other why.1.first_fence (λ u at. let same = act-unique T (suc n) (Flushes t l) (Fences u) is at in cc)),
)

-- one more fence, whose thread has not flushed the line since the store
pub cause-fence : (T : Recording) (l n i t : ℕ) (c : Cause) → IsAct T (suc n) (Fences t) → i ≤ n → ¬ IsFlushedBy T l i n t → IsCause T l n i c → IsCause T l (suc n) i (with_fence (suc n) c)
cause-fence T l n i t Later is within none why = absurd (omega arith)
cause-fence T l n i t Unflushed is within none why = (omega arith, unflushed-next T l i n why.1 (no_flush T l (suc n) t is))
  where
    no_flush : (T : Recording) (l n t : ℕ) → IsAct T n (Fences t) → ¬ IsFlushOf T l n
    no_flush T l n t is (ByFlush u at) = let same = act-unique T n (Fences t) (Flushes u l) is at in cc
    no_flush T l n t is (ByClflush at) = let same = act-unique T n (Fences t) (Clflushes l) is at in cc
cause-fence T l n i t (Unfenced flush thread other) is within none why = (
  omega arith,
  unfenced-next T l i n flush thread other (with_first (suc n) other) why.1 (λ at. let same = act-unique T (suc n) (Fences t) (Clflushes l) is at in cc)
      (λ u at. let same = act-unique T (suc n) (Fences t) (Fences u) is at in let e : t ≡ u = cc in subst (λ v. ¬ IsFlushedBy T l i n v) e none)
      (fence-next T flush n t other why.1.by_now why.1.first_fence is),
)

-- one more event that is no flush of the line and no fence, or none at all
pub cause-other : (T : Recording) (l n i : ℕ) (c : Cause) → ¬ IsFlushOf T l (suc n) → ((t : ℕ) → ¬ IsAct T (suc n) (Fences t)) → i ≤ n → IsCause T l n i c → IsCause T l (suc n) i c
cause-other T l n i Later no_flush no_fence within why = absurd (omega arith)
cause-other T l n i Unflushed no_flush no_fence within why = (omega arith, unflushed-next T l i n why.1 no_flush)
cause-other T l n i (Unfenced flush thread other) no_flush no_fence within why = (
  omega arith,
  unfenced-next T l i n flush thread other other why.1 (λ at. no_flush (ByClflush at)) (λ u at. absurd (no_fence u at))
      (fence-other T flush n other why.1.first_fence no_fence),
)

-- at the store itself its line is not flushed
pub cause-start : (T : Recording) (l i : ℕ) → IsCause T l i i Unflushed
cause-start T l i = (omega arith, λ k after by_now. absurd (omega arith))
