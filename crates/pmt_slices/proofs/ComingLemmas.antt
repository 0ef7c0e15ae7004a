-- What comes after a place of one line, going back event by event, and what it tells of a store there.
use Rattle.pmt_slices.proofs.Prelude.{◌≡◌, ◌≢◌, ℕ, suc, ◌<◌, ◌≤◌, ◌⊎◌, inl, inr, min, refl, sym, subst, ◌∙◌, arith, cases_lt, Written, Act, Stores, Flushes, Clflushes, Fences, Recording, IsAct, IsFlushOf, ByFlush, ByClflush, IsFirstFenceAt, act-unique, IsSafeFrom, IsFirst, IsFenceAfter, IsCompleteBy, ByFence, ByItself, IsCompletedAfter, first-same, first-either, first-here, first-over, own-flush, Coming, IsFirstFlush, IsFirstFlushBy, Tells, Itself, Completes, Covers, FirstFlush, FirstFence, IsFlushAfter, IsAnyFenceAfter, IsCompletion, OfFence, OfClflush, IsComing, IsOfStore, TheStore, TheFlush, TheCompletion, TheCover, TheFence}
use Rattle.pmt_slices.proofs.TellLemmas.{completed-is_safe, first-flush-unique}

-- there is one first number
pub first-unique : (P : ℕ → Type 0) (past a k : ℕ) → IsFirst P past a → P k → k < past → ((m : ℕ) → m < k → P m → ⊥) → k ≡ a
first-unique P past a k x p below none = elim (cases_lt k a) [
  | inl less ↦ absurd (x.none_before k less p)
  | inr more ↦ elim (cases_lt a k) [ inl less ↦ absurd (none a less (x.has (omega arith))) | inr equal ↦ omega arith ]
]

-- a complete flush stands no later than the place
complete-by : (T : Recording) (l i p : ℕ) → IsCompleteBy T l i p → i ≤ p
complete-by T l i p (ByFence t fence flush f later by_now) = omega arith
complete-by T l i p (ByItself flush by_now) = by_now

-- past an assertion nothing comes
pub coming-none : (T : Recording) (l n : ℕ) (c : Coming) → c.flush ≡ suc n → c.fence ≡ suc n → c.safe ≡ suc n → IsComing T l n (suc n) c
coming-none T l n c flush fence safe = record {
  flush = record { within = omega (arith, flush); has = λ h. absurd (omega (arith, flush)); none_before = λ k below x. omega (arith, flush, below, x.0) };
  fence = λ h. absurd (omega (arith, flush));
  safe = record { within = omega (arith, safe); has = λ h. absurd (omega (arith, safe)); none_before = λ k below x. omega (arith, safe, below, x.1, complete-by T l x.0 k x.2) };
  cover = λ h. absurd (omega (arith, safe));
}

-- an event that flushes no line in question changes nothing of it
unflushed-here : (T : Recording) (l n : ℕ) (a : Act) → IsAct T n a → ((t : ℕ) → a ≢ Flushes t l) → a ≢ Clflushes l → IsFlushOf T l n → ⊥
unflushed-here T l n a is no_flush no_clflush (ByFlush t flush) = no_flush t (act-unique T n a (Flushes t l) is flush)
unflushed-here T l n a is no_flush no_clflush (ByClflush flush) = no_clflush (act-unique T n a (Clflushes l) is flush)

complete-flushes : (T : Recording) (l i p : ℕ) → IsCompleteBy T l i p → IsFlushOf T l i
complete-flushes T l i p (ByFence t fence flush f later by_now) = ByFlush t flush
complete-flushes T l i p (ByItself flush by_now) = ByClflush flush

completed-over : (T : Recording) (l m past first : ℕ) → (IsFlushOf T l (suc m) → ⊥) → IsFirst (IsCompletedAfter T l (suc m)) past first → IsFirst (IsCompletedAfter T l m) past first
completed-over T l m past first none x =
    first-same (IsCompletedAfter T l (suc m)) (IsCompletedAfter T l m) past first (λ p c. (c.0, omega (arith, c.1), c.2)) (λ p c. (c.0, later p c (cases_lt (suc m) c.0), c.2)) x
  where
    later : (p : ℕ) → (c : IsCompletedAfter T l m p) → (suc m < c.0) ⊎ (c.0 ≤ suc m) → suc m < c.0
    later p c (inl after) = after
    later p c (inr here) = let e : c.0 ≡ suc m = omega (arith, c.1) in absurd (none (subst (IsFlushOf T l) e (complete-flushes T l c.0 p c.2)))

-- what is completed after an event is completed after the one before it, where that is no flush by the thread
first-earlier : (T : Recording) (t l m f : ℕ) → ¬ IsAct T (suc m) (Flushes t l) → IsFirstFlushBy T t l (suc m) f → IsFirstFlushBy T t l m f
first-earlier T t l m f none x = record {
  is_flush = x.is_flush;
  after = omega (arith, x.after);
  first = λ k after before is. elim (cases_lt (suc m) k) [
    | inl later ↦ x.first k later before is
    | inr here ↦ let e : k ≡ suc m = omega arith in none (subst (λ i. IsAct T i (Flushes t l)) e is)
  ];
}

completion-earlier : (T : Recording) (l m flush p : ℕ) → ((t : ℕ) → IsAct T p (Fences t) → ¬ IsAct T (suc m) (Flushes t l)) → IsCompletion T l (suc m) flush p → IsCompletion T l m flush p
completion-earlier T l m flush p none (OfFence t fence first before) = OfFence t fence (first-earlier T t l m flush (none t fence) first) before
completion-earlier T l m flush p none (OfClflush clflush after own) = OfClflush clflush (omega arith) own

pub coming-over : (T : Recording) (l m past : ℕ) (c : Coming) (a : Act) → IsAct T (suc m) a → ((t : ℕ) → a ≢ Flushes t l) → a ≢ Clflushes l → IsComing T l (suc m) past c → IsComing T l m past c
coming-over T l m past c a is no_flush no_clflush old =
    let none = unflushed-here T l (suc m) a is no_flush no_clflush in
    record {
      flush = first-over (IsFlushOf T l) past m c.flush none old.flush;
      fence = old.fence;
      safe = completed-over T l m past c.safe none old.safe;
      cover = λ h. completion-earlier T l m c.cover c.safe (λ t fence flush. none (ByFlush t flush)) (old.cover h);
    }

-- over a flush of the line
completed-flush : (T : Recording) (t l m past by first : ℕ) → IsAct T (suc m) (Flushes t l) → IsFirst (IsFenceAfter T t (suc m)) past by →
    IsFirst (IsCompletedAfter T l (suc m)) past first → IsFirst (IsCompletedAfter T l m) past (min first by)
completed-flush T t l m past by first is next x =
    first-either (IsCompletedAfter T l (suc m)) (IsCompleteBy T l (suc m)) (IsCompletedAfter T l m) past first by (λ p c. (c.0, omega (arith, c.1), c.2))
    (λ p c. (suc m, omega arith, c)) (λ p c. split p c (cases_lt (suc m) c.0)) x (own-flush T t l (suc m) past by is next)
  where
    split : (p : ℕ) → (c : IsCompletedAfter T l m p) → (suc m < c.0) ⊎ (c.0 ≤ suc m) → IsCompletedAfter T l (suc m) p ⊎ IsCompleteBy T l (suc m) p
    split p c (inl after) = inl (c.0, after, c.2)
    split p c (inr here) = let e : c.0 ≡ suc m = omega (arith, c.1) in inr (subst (λ i. IsCompleteBy T l i p) e c.2)

pub coming-flush : (T : Recording) (t l m past fence by : ℕ) (c new : Coming) → IsAct T (suc m) (Flushes t l) → suc m < past → IsFirst (IsAnyFenceAfter T (suc m)) past fence →
    IsFirst (IsFenceAfter T t (suc m)) past by → new.flush ≡ suc m → new.fence ≡ fence → (by ≤ c.safe → (new.safe ≡ by) × (new.cover ≡ suc m)) → (c.safe < by → (new.safe ≡ c.safe) × (new.cover ≡ c.cover)) →
    IsComing T l (suc m) past c → IsComing T l m past new
coming-flush T t l m past fence by c new is early any next flush' fence' sooner later old = record {
  flush = subst (IsFirst (IsFlushAfter T l m) past) (sym flush') (first-here (IsFlushOf T l) past m (omega arith) (ByFlush t is));
  fence = λ h. let P : ℕ → ℕ → Type 0 = λ f k. IsFirst (IsAnyFenceAfter T f) past k in subst (λ f. P f new.fence) (sym flush') (subst (P (suc m)) (sym fence') any);
  safe = safe (cases_lt c.safe by);
  cover = λ h. cover h (cases_lt c.safe by);
}
  where
    both : IsFirst (IsCompletedAfter T l m) past (min c.safe by)
    both = completed-flush T t l m past by c.safe is next old.safe

    safe : (c.safe < by) ⊎ (by ≤ c.safe) → IsFirst (IsCompletedAfter T l m) past new.safe
    safe (inl less) = let e : min c.safe by ≡ new.safe = omega (arith, (later less).0) in subst (IsFirst (IsCompletedAfter T l m) past) e both
    safe (inr more) = let e : min c.safe by ≡ new.safe = omega (arith, (sooner more).0) in subst (IsFirst (IsCompletedAfter T l m) past) e both

    own : by < past → IsCompletion T l m (suc m) by
    own h = let x = next.has h in OfFence t x.1 (record { is_flush = is; after = omega arith; first = λ k after before at. absurd (omega arith) }) x.0

    -- the thread of the fence that comes first has no flush here
    other : c.safe < by → (u : ℕ) → IsAct T c.safe (Fences u) → ¬ IsAct T (suc m) (Flushes u l)
    other less u f flush =
        let same = act-unique T (suc m) (Flushes t l) (Flushes u l) is flush in
        let thread : u ≡ t = cc in
        next.none_before c.safe less (after (old.cover (omega (arith, less, next.within))), subst (λ v. IsAct T c.safe (Fences v)) thread f)
      where
        after : IsCompletion T l (suc m) c.cover c.safe → suc m < c.safe
        after (OfFence v g first before) = omega (arith, first.after, before)
        after (OfClflush clflush h own) = h

    cover : new.safe < past → (c.safe < by) ⊎ (by ≤ c.safe) → IsCompletion T l m new.cover new.safe
    cover h (inl less) =
        let same = later less in
        let before = completion-earlier T l m c.cover c.safe (other less) (old.cover (omega (arith, same.0, h))) in
        subst (λ f. IsCompletion T l m f new.safe) (sym same.1) (subst (IsCompletion T l m c.cover) (sym same.0) before)
    cover h (inr more) =
        let same = sooner more in
        subst (λ f. IsCompletion T l m f new.safe) (sym same.1) (subst (IsCompletion T l m (suc m)) (sym same.0) (own (omega (arith, same.0, h))))

-- over a clflush of the line
pub coming-clflush : (T : Recording) (l m past fence : ℕ) (new : Coming) → IsAct T (suc m) (Clflushes l) → suc m < past → IsFirst (IsAnyFenceAfter T (suc m)) past fence →
    new.flush ≡ suc m → new.fence ≡ fence → new.safe ≡ suc m → new.cover ≡ suc m → IsComing T l m past new
coming-clflush T l m past fence new is early any flush' fence' safe' cover' = record {
  flush = subst (IsFirst (IsFlushAfter T l m) past) (sym flush') (first-here (IsFlushOf T l) past m (omega arith) (ByClflush is));
  fence = λ h. let P : ℕ → ℕ → Type 0 = λ f k. IsFirst (IsAnyFenceAfter T f) past k in subst (λ f. P f new.fence) (sym flush') (subst (P (suc m)) (sym fence') any);
  safe = subst (IsFirst (IsCompletedAfter T l m) past) (sym safe') (record {
    within = omega arith;
    has = λ h. (suc m, omega arith, ByItself is (omega arith));
    none_before = λ k below x. omega (arith, below, x.1, complete-by T l x.0 k x.2);
  });
  cover = λ h. let P : ℕ → ℕ → Type 0 = λ f p. IsCompletion T l m f p in subst (λ f. P f new.safe) (sym cover') (subst (P (suc m)) (sym safe') (OfClflush is (omega arith) refl));
}

-- where a store is safe first is told
pub saved-at : (T : Recording) (l j n p : ℕ) (w : Written) (c : Coming) → IsAct T j (Stores l w) → IsComing T l j (suc n) c → p ≤ n → IsSafeFrom T l j p → p ≡ c.safe
saved-at T l j n p w c is coming within from =
    first-unique (IsCompletedAfter T l j) (suc n) c.safe p coming.safe ((completed-is_safe T l j p w is).1 from.safe) (omega arith) (λ m before it. from.first m before ((completed-is_safe T l j m w is).0 it))

-- and what is told is so
pub told-safe : (T : Recording) (l j n : ℕ) (w : Written) (c : Coming) → IsAct T j (Stores l w) → IsComing T l j (suc n) c → c.safe ≤ n → IsSafeFrom T l j c.safe
told-safe T l j n w c is coming within = record {
  safe = (completed-is_safe T l j c.safe w is).0 (coming.safe.has (omega arith));
  first = λ m before safe. coming.safe.none_before m before ((completed-is_safe T l j m w is).1 safe);
}

-- the first flush is told
pub flushed-at : (T : Recording) (l j n k : ℕ) (c : Coming) → IsComing T l j (suc n) c → k ≤ n → IsFirstFlush T l j k → k ≡ c.flush
flushed-at T l j n k c coming within first =
    first-unique (IsFlushAfter T l j) (suc n) c.flush k coming.flush (first.after, first.is_flush) (omega (arith, within)) (λ m before x. first.first m x.0 before x.1)

-- all that tells of a store comes after it so
pub tells-coming : (T : Recording) (l j n k : ℕ) (w : Written) (c : Coming) → IsAct T j (Stores l w) → IsComing T l j (suc n) c → Tells T n l j k → IsOfStore j c n k
tells-coming T l j n k w c is coming (Itself e) = TheStore e
tells-coming T l j n k w c is coming (Completes within from) = let e = saved-at T l j n k w c is coming within from in TheCompletion (omega arith) e
tells-coming T l j n k w c is coming (Covers t p within from fence first) = go (coming.cover (omega (arith, e, within)))
  where
    e : p ≡ c.safe
    e = saved-at T l j n p w c is coming within from

    go : IsCompletion T l j c.cover c.safe → IsOfStore j c n k
    go (OfFence u other own before) =
        let same = act-unique T p (Fences t) (Fences u) fence (subst (λ q. IsAct T q (Fences u)) (sym e) other) in
        let thread : u ≡ t = cc in
        TheCover (omega (arith, e, within)) (first-flush-unique T t l j k c.cover first (subst (λ v. IsFirstFlushBy T v l j c.cover) thread own))
    go (OfClflush other after own) = let same = act-unique T p (Fences t) (Clflushes l) fence (subst (λ q. IsAct T q (Clflushes l)) (sym e) other) in cc
tells-coming T l j n k w c is coming (FirstFlush within first) =
    TheFlush (flushed-at T l j n k c coming within first)
tells-coming T l j n k w c is coming (FirstFence f first fence unsafe) =
    let flush : f ≡ c.flush = flushed-at T l j n f c coming (omega (arith, fence.after, fence.by_now)) first in
    let same : k ≡ c.fence = first-unique (IsAnyFenceAfter T c.flush) (suc n) c.fence k (coming.fence (omega (arith, fence.after, fence.by_now))) (omega (arith, fence.after), (fence.thread, fence.is_fence)) (omega (arith, fence.by_now)) (λ m before x. fence.none_before m (x.1).0 (omega (arith, x.0)) before (x.1).1) in
    TheFence (late (cases_lt c.safe c.fence) same) (omega (arith, fence.after, fence.by_now)) same
  where
    late : (c.safe < c.fence) ⊎ (c.fence ≤ c.safe) → k ≡ c.fence → c.fence ≤ c.safe
    late (inl less) same = absurd (unsafe c.safe (omega arith) ((completed-is_safe T l j c.safe w is).0 (coming.safe.has (omega (arith, fence.by_now)))))
    late (inr more) same = more

-- and nothing else does
pub coming-tells : (T : Recording) (l j n k : ℕ) (w : Written) (c : Coming) → IsAct T j (Stores l w) → IsComing T l j (suc n) c → k ≤ n → IsOfStore j c n k → Tells T n l j k
coming-tells T l j n k w c is coming within (TheStore e) = Itself e
coming-tells T l j n k w c is coming within (TheFlush e) =
    let x = coming.flush.has (omega arith) in
    FirstFlush within (subst (IsFirstFlush T l j) (sym e) (record { is_flush = x.1; after = x.0; first = λ m after before flush. coming.flush.none_before m before (after, flush) }))
coming-tells T l j n k w c is coming within (TheCompletion safe e) = Completes within (subst (IsSafeFrom T l j) (sym e) (told-safe T l j n w c is coming safe))
coming-tells T l j n k w c is coming within (TheCover safe e) = go (coming.cover (omega arith))
  where
    from : IsSafeFrom T l j c.safe
    from = told-safe T l j n w c is coming safe

    go : IsCompletion T l j c.cover c.safe → Tells T n l j k
    go (OfFence t fence first before) = Covers t c.safe safe from fence (subst (IsFirstFlushBy T t l j) (sym e) first)
    go (OfClflush clflush after own) = Completes within (subst (IsSafeFrom T l j) (sym (e ∙ own)) from)
coming-tells T l j n k w c is coming within (TheFence late flushed e) =
    let x = coming.flush.has (omega arith) in
    let y = (coming.fence (omega arith)).has (omega arith) in
    FirstFence c.flush (record { is_flush = x.1; after = x.0; first = λ m after before flush. coming.flush.none_before m before (after, flush) })
    (subst (IsFirstFenceAt T c.flush n) (sym e) (record { thread = (y.1).0; is_fence = (y.1).1; after = y.0; by_now = omega arith; none_before = λ m t after before fence. (coming.fence (omega arith)).none_before m before (after, (t, fence)) }))
    (λ p before safe. coming.safe.none_before p (omega arith) ((completed-is_safe T l j p w is).1 safe))
