-- Each pending store has one cause.
use Rattle.std.proofs.Common.{◌≡◌, ◌≢◌, ℕ, zero, suc, ◌<◌, ◌≤◌, ◌⊎◌, inl, inr, length, Option, None, Some, refl, sym, ap, subst, subst₂, arith}
use Rattle.std.proofs.lemmas.Bool.{cases_lt, cases_eq}
use Rattle.pmt_laws.specs.Prelude.{Act, Flushes, Clflushes, Fences, Recording, IsAct, count_at, front_at, IsFlushOf, ByFlush, ByClflush}
use Rattle.pmt_laws.proofs.Histories.{act-unique, act-within, history-step, front-mono}
use Rattle.pmt_reasons.specs.declared.cause.Cause.{Cause}
use Rattle.pmt_reasons.specs.declared.cause.Cause.TheVariants.{Later, Unflushed, Unfenced}
use Rattle.pmt_reasons.specs.Causes.{with_flush, with_fence, IsFirstFence, IsUnfenced, IsCause, CauseExists, CauseIsUnique}
use Rattle.pmt_reasons.proofs.CauseLemmas.{pending_by_fronts, cause-unsafe, safe-clflush, safe-fence, IsFlushedBy, cause-flush, cause-fence, cause-other, cause-start}

-- an event with another act is no flush of the line
pub no_flush_of : (T : Recording) (l n : ℕ) (a : Act) → IsAct T n a → ((t : ℕ) → a ≢ Flushes t l) → a ≢ Clflushes l → ¬ IsFlushOf T l n
no_flush_of T l n a is flush clflush (ByFlush t at) = flush t (act-unique T n a (Flushes t l) is at)
no_flush_of T l n a is flush clflush (ByClflush at) = clflush (act-unique T n a (Clflushes l) is at)

-- an event with another act is no fence
pub no_fence : (T : Recording) (n : ℕ) (a : Act) → IsAct T n a → ((t : ℕ) → a ≢ Fences t) → (t : ℕ) → ¬ IsAct T n (Fences t)
no_fence T n a is apart t at = apart t (act-unique T n a (Fences t) is at)

-- an event with this act is a flush of the line by the thread, or not
flush-is : (T : Recording) (t l n : ℕ) (a : Act) → IsAct T n a → IsAct T n (Flushes t l) ⊎ (IsAct T n (Flushes t l) → ⊥)
flush-is T t l n (Flushes u k) is = go (cases_eq u t) (cases_eq k l)
  where
    go : (u ≡ t) ⊎ (u ≡ t → ⊥) → (k ≡ l) ⊎ (k ≡ l → ⊥) → IsAct T n (Flushes t l) ⊎ (IsAct T n (Flushes t l) → ⊥)
    go (inl thread) (inl line) = inl (subst₂ (λ v j. IsAct T n (Flushes v j)) thread line is)
    go (inr apart) line = inr (λ at. let same = act-unique T n (Flushes u k) (Flushes t l) is at in apart (cc))
    go (inl thread) (inr apart) = inr (λ at. let same = act-unique T n (Flushes u k) (Flushes t l) is at in apart (cc))
flush-is T t l n a is = inr (λ at. let same = act-unique T n a (Flushes t l) is at in cc)

-- the next event is a flush of the line by the thread, or not
pub flush-dec : (T : Recording) (t l n : ℕ) → IsAct T (suc n) (Flushes t l) ⊎ (IsAct T (suc n) (Flushes t l) → ⊥)
flush-dec T t l n = elim (history-step T n) [
  | inl x ↦ flush-is T t l (suc n) x.0 x.1
  | inr x ↦ inr (λ at. absurd (omega (arith, x.0, (act-within T (suc n) (Flushes t l) at).1)))
]

-- a flush of the line by the thread stands among some events, or none does
flushed-dec : (T : Recording) (l i n t : ℕ) → IsFlushedBy T l i n t ⊎ (IsFlushedBy T l i n t → ⊥)
flushed-dec T l i zero t = inr (λ (j, after, by_now, is). absurd (omega arith))
flushed-dec T l i (suc n) t = go (flushed-dec T l i n t) (flush-dec T t l n) (cases_lt i (suc n))
  where
    go : IsFlushedBy T l i n t ⊎ (IsFlushedBy T l i n t → ⊥) → IsAct T (suc n) (Flushes t l) ⊎ (IsAct T (suc n) (Flushes t l) → ⊥) → (i < suc n) ⊎ (suc n ≤ i) →
        IsFlushedBy T l i (suc n) t ⊎ (IsFlushedBy T l i (suc n) t → ⊥)
    go (inl (j, after, by_now, is)) next within = inl (j, after, omega arith, is)
    go (inr none) (inl is) (inl within) = inl (suc n, within, omega arith, is)
    go (inr none) (inl is) (inr past) = inr (λ (j, after, by_now, at). absurd (omega arith))
    go (inr none) (inr other) within = inr (λ (j, after, by_now, at). elim (cases_lt j (suc n)) [
      | inl early ↦ none (j, after, omega arith, at)
      | inr late ↦ let e : j ≡ suc n = omega arith in let P : ℕ → Type 0 = λ k. IsAct T k (Flushes t l) in other (subst P e at)
    ])

-- the store is safe at a place, or has a cause there
abbrev pub IsJudged : Recording → ℕ → ℕ → ℕ → Type 0
IsJudged T l n i = (count_at T l i ≤ front_at T l n) ⊎ ((c : Cause) × IsCause T l n i c)

-- one more event of the trace
judged-act : (T : Recording) (l n i : ℕ) (c : Cause) (a : Act) → IsAct T (suc n) a → i ≤ n → IsCause T l n i c → IsJudged T l (suc n) i
judged-act T l n i c (Flushes t k) is within why = elim (cases_eq k l) [
  | inl line ↦ inr (with_flush (suc n) t c, cause-flush T l n i t c (subst (λ j. IsAct T (suc n) (Flushes t j)) line is) within why)
  | inr apart ↦ inr (c, cause-other T l n i c (no_flush_of T l (suc n) (Flushes t k) is (λ u e. apart (cc)) (λ e. cc)) (no_fence T (suc n) (Flushes t k) is (λ u e. cc)) within why)
]
judged-act T l n i c (Clflushes k) is within why = elim (cases_eq k l) [
  | inl line ↦ inl (safe-clflush T l (suc n) i (suc n) (subst (λ j. IsAct T (suc n) (Clflushes j)) line is) (omega arith) (omega arith))
  | inr apart ↦ inr (c, cause-other T l n i c (no_flush_of T l (suc n) (Clflushes k) is (λ u e. cc) (λ e. apart (cc))) (no_fence T (suc n) (Clflushes k) is (λ u e. cc)) within why)
]
judged-act T l n i c (Fences t) is within why = elim (flushed-dec T l i n t) [
  | inl x ↦ inl (safe-fence T l (suc n) i t x.0 (suc n) x.3 is x.1 (omega (arith, x.2)) (omega arith))
  | inr none ↦ inr (with_fence (suc n) c, cause-fence T l n i t c is within none why)
]
judged-act T l n i c a is within why =
    inr (c, cause-other T l n i c (no_flush_of T l (suc n) a is (λ t e. cc) (λ e. cc)) (no_fence T (suc n) a is (λ t e. cc)) within why)

-- no more events
pub cause-ended : (T : Recording) (l n i : ℕ) (c : Cause) → length T.events ≤ n → i ≤ n → IsCause T l n i c → IsCause T l (suc n) i c
cause-ended T l n i c past within why = cause-other T l n i c none (λ t at. absurd (omega (arith, (act-within T (suc n) (Fences t) at).1))) within why
  where
    none : ¬ IsFlushOf T l (suc n)
    none (ByFlush t at) = absurd (omega (arith, (act-within T (suc n) (Flushes t l) at).1))
    none (ByClflush at) = absurd (omega (arith, (act-within T (suc n) (Clflushes l) at).1))

-- one more place
judged-next : (T : Recording) (l n i : ℕ) → i ≤ n → IsJudged T l n i → IsJudged T l (suc n) i
judged-next T l n i within (inl safe) = inl (omega (arith, front-mono T l n (suc n) (omega arith)))
judged-next T l n i within (inr (c, why)) = elim (history-step T n) [
  | inl x ↦ judged-act T l n i c x.0 x.1 within why
  | inr x ↦ inr (c, cause-ended T l n i c x.0 within why)
]

-- at each place the store is safe or has a cause
pub judged : (T : Recording) (l n i : ℕ) → IsJudged T l n i
judged T l zero i = go (cases_lt 0 i)
  where
    go : (0 < i) ⊎ (i ≤ 0) → IsJudged T l 0 i
    go (inl later) = inr (Later, later)
    go (inr none) = let e : i ≡ 0 = omega arith in inr (Unflushed, subst (λ j. IsCause T l 0 j Unflushed) (sym e) (cause-start T l 0))
judged T l (suc n) i = go (cases_lt n i) (judged T l n i)
  where
    at : (suc n < i) ⊎ (i ≤ suc n) → n < i → IsJudged T l (suc n) i
    at (inl later) above = inr (Later, later)
    at (inr now) above = let e : i ≡ suc n = omega arith in inr (Unflushed, subst (λ j. IsCause T l (suc n) j Unflushed) (sym e) (cause-start T l (suc n)))

    go : (n < i) ⊎ (i ≤ n) → IsJudged T l n i → IsJudged T l (suc n) i
    go (inl above) before = at (cases_lt (suc n) i) above
    go (inr within) before = judged-next T l n i within before

-- a store is pending exactly where it has a cause
pub cause_exists : CauseExists
cause_exists T l n i w store = (
  λ p. elim (judged T l n i) [
    | inl safe ↦ absurd (omega (arith, (pending_by_fronts T l n i).0 p))
    | inr x ↦ x
  ],
  λ (c, why). (pending_by_fronts T l n i).1 (cause-unsafe T l n i w c store why),
)

-- there is one first fence
pub first_fence-unique : (T : Recording) (i n : ℕ) (o p : Option ℕ) → IsFirstFence T i n o → IsFirstFence T i n p → o ≡ p
first_fence-unique T i n None None x y = refl
first_fence-unique T i n None (Some k) x y = absurd (x k y.thread y.after y.by_now y.is_fence)
first_fence-unique T i n (Some j) None x y = absurd (y j x.thread x.after x.by_now x.is_fence)
first_fence-unique T i n (Some j) (Some k) x y = ap Some (equal (cases_lt j k) (cases_lt k j))
  where
    equal : (j < k) ⊎ (k ≤ j) → (k < j) ⊎ (j ≤ k) → j ≡ k
    equal (inl less) q = absurd (y.none_before j x.thread x.after less x.is_fence)
    equal (inr p) (inl less) = absurd (x.none_before k y.thread y.after less y.is_fence)
    equal (inr p) (inr q) = omega arith

-- there is one first flush, with the first fence after it
unfenced-unique : (T : Recording) (l i n f g t u : ℕ) (o p : Option ℕ) → IsUnfenced T l i n f t o → IsUnfenced T l i n g u p → Unfenced f t o ≡ Unfenced g u p
unfenced-unique T l i n f g t u o p x y =
    let flush : f ≡ g = equal (cases_lt f g) (cases_lt g f) in
    let same = act-unique T f (Flushes t l) (Flushes u l) x.is_flush (subst (λ k. IsAct T k (Flushes u l)) (sym flush) y.is_flush) in
    let thread : t ≡ u = cc in
    let fence = first_fence-unique T f n o p x.first_fence (subst (λ k. IsFirstFence T k n p) (sym flush) y.first_fence) in
    cc
  where
    equal : (f < g) ⊎ (g ≤ f) → (g < f) ⊎ (f ≤ g) → f ≡ g
    equal (inl less) q = absurd (y.first f x.after less (ByFlush t x.is_flush))
    equal (inr p) (inl less) = absurd (x.first g y.after less (ByFlush u y.is_flush))
    equal (inr p) (inr q) = omega arith

-- a store has one cause
pub cause_is_unique : CauseIsUnique
cause_is_unique T l n i Later Unflushed x y = absurd (omega (arith, y.0))
cause_is_unique T l n i Later (Unfenced f t o) x y = absurd (omega (arith, y.0))
cause_is_unique T l n i Unflushed Later x y = absurd (omega (arith, x.0))
cause_is_unique T l n i Unflushed (Unfenced f t o) x y = absurd (x.1 f y.1.after y.1.by_now (ByFlush t y.1.is_flush))
cause_is_unique T l n i (Unfenced f t o) Later x y = absurd (omega (arith, x.0))
cause_is_unique T l n i (Unfenced f t o) Unflushed x y = absurd (y.1 f x.1.after x.1.by_now (ByFlush t x.1.is_flush))
cause_is_unique T l n i (Unfenced f t o) (Unfenced g u p) x y = unfenced-unique T l i n f g t u o p x.1 y.1
cause_is_unique T l n i a b x y = refl
