-- The slice of an assertion has the grounds of its verdict.
use Rattle.pmt_slices.proofs.Prelude.{◌≡◌, ℕ, ◌≤◌, inl, inr, List, length, Some, refl, sym, subst, ◌∙◌, arith, [], ◌∷◌, Written, Span, Event, IsPersist, IsOrderedBefore, Stores, Flushes, Clflushes, Fences, Recording, IsAct, event, act, IsVerdictOf, OfPersist, OfOrdered, Has, cut, AllByRecursion, cases_lt, act-within, act-unique, IsSafeFrom, IsLastIn, IsSubsequence, HasCover, ByFlushAndFence, ByOneClflush, HasGrounds, Tells, Itself, Completes, Covers, FirstFlush, FirstFence, IsRangeOf, IsAssertion, Speaks, IsInSlice, TheAssertion, OfStore, IsSlice, SliceJudges, verdict_in}
use Rattle.pmt_slices.proofs.CuttingLemmas.{kept-event}
use Rattle.pmt_slices.proofs.VerdictLemmas.{last-by_now, persist_stays, ordered_stays}
use Rattle.pmt_slices.proofs.TellLemmas.{IsFirstCompletion, AFence, AClflush, first-completion, first-flush}

-- what tells of a store is an event up to the place
pub tells-within : (T : Recording) (n l j k : ℕ) (w : Written) → IsAct T j (Stores l w) → j ≤ n → Tells T n l j k → k ≤ n
tells-within T n l j k w is by (Itself e) = omega arith
tells-within T n l j k w is by (Completes within from) = within
tells-within T n l j k w is by (Covers t p within from fence first) = go (first-completion T l j p w is from)
  where
    go : IsFirstCompletion T l j p → k ≤ n
    go (AFence u flush other is_flush after before) =
        let same = act-unique T p (Fences u) (Fences t) other fence in
        let thread : u ≡ t = cc in
        let own : IsAct T flush (Flushes t l) = subst (λ v. IsAct T flush (Flushes v l)) thread is_flush in
        elim (cases_lt flush k) [ inl less ↦ absurd (first.first flush after less own) | inr more ↦ omega arith ]
    go (AClflush other after) = let same = act-unique T p (Clflushes l) (Fences t) other fence in cc
tells-within T n l j k w is by (FirstFlush within first) = within
tells-within T n l j k w is by (FirstFence f flush fence unsafe) = fence.by_now

-- and no event before the first one
pub tells-some : (T : Recording) (n l j k : ℕ) (w : Written) → IsAct T j (Stores l w) → Tells T n l j k → 1 ≤ k
tells-some T n l j k w is (Itself e) = omega (arith, e, (act-within T j (Stores l w) is).0)
tells-some T n l j k w is (Completes within from) = go (first-completion T l j k w is from)
  where
    go : IsFirstCompletion T l j k → 1 ≤ k
    go (AFence t flush fence is_flush after before) = omega arith
    go (AClflush clflush after) = omega arith
tells-some T n l j k w is (Covers t p within from fence first) = omega (arith, first.after)
tells-some T n l j k w is (FirstFlush within first) = omega (arith, first.after)
tells-some T n l j k w is (FirstFence f flush fence unsafe) = omega (arith, fence.after)

-- an assertion is an event
pub range-within : (T : Recording) (n : ℕ) (A : Span) → IsRangeOf T n A → n ≤ length T.events
range-within T n A (e, is, speaks) = (act-within T n (act T.format e) (e, is, refl)).1

-- the slice of an event is a subsequence
pub slice-subsequence : (T : Recording) (n : ℕ) (K : List ℕ) → IsSlice T n K → n ≤ length T.events → IsSubsequence T K
slice-subsequence T n K slice within = record { rising = slice.rising; within = λ k has. go k ((slice.just k).0 has) }
  where
    go : (k : ℕ) → IsInSlice T n k → k ≤ length T.events
    go k (TheAssertion e) = omega arith
    go k (OfStore A l j range it tells) = omega (arith, tells-within T n l j k it.what it.is_store (last-by_now T n A l j it) tells)

-- it has what tells of the last stores to the bytes of each range
pub slice-has : (T : Recording) (n : ℕ) (K : List ℕ) (A : Span) (l j k : ℕ) → IsSlice T n K → IsRangeOf T n A → IsLastIn T n A l j → Tells T n l j k → Has K k
slice-has T n K A l j k slice range it tells = (slice.just k).1 (OfStore A l j range it tells)

-- what tells of a store has what makes it safe first
pub tells-cover : (T : Recording) (n : ℕ) (K : List ℕ) (l j p : ℕ) (w : Written) → IsAct T j (Stores l w) → ((k : ℕ) → Tells T n l j k → Has K k) → p ≤ n → IsSafeFrom T l j p → HasCover T (Has K) l j p
tells-cover T n K l j p w is has within from = go (first-completion T l j p w is from)
  where
    go : IsFirstCompletion T l j p → HasCover T (Has K) l j p
    go (AFence t flush fence is_flush after before) =
        let first = first-flush T t l j flush is_flush after in
        ByFlushAndFence t first.0 first.2.is_flush fence first.2.after (omega (arith, first.1, before)) (has first.0 (Covers t p within from fence first.2)) (has p (Completes within from))
    go (AClflush clflush after) = ByOneClflush clflush after (has p (Completes within from))

pub slice-grounds : (T : Recording) (n : ℕ) (K : List ℕ) (A : Span) → IsSlice T n K → IsRangeOf T n A → HasGrounds T (Has K) n A
slice-grounds T n K A slice range = record {
  stores = λ l j it. slice-has T n K A l j j slice range it (Itself refl);
  covers = λ l j p it within from. tells-cover T n K l j p it.what it.is_store (λ k tells. slice-has T n K A l j k slice range it tells) within from;
}

-- the ranges of an assertion
pub persist-range : (T : Recording) (n : ℕ) (e : Event) (A : Span) → event T n ≡ Some e → e.op ≡ IsPersist A → IsRangeOf T n A
persist-range T n e A is op = (e, is, subst (λ o. Speaks o A) (sym op) refl)

pub first-range : (T : Recording) (n : ℕ) (e : Event) (A B : Span) → event T n ≡ Some e → e.op ≡ IsOrderedBefore A B → IsRangeOf T n A
first-range T n e A B is op = (e, is, subst (λ o. Speaks o A) (sym op) (inl refl))

pub second-range : (T : Recording) (n : ℕ) (e : Event) (A B : Span) → event T n ≡ Some e → e.op ≡ IsOrderedBefore A B → IsRangeOf T n B
second-range T n e A B is op = (e, is, subst (λ o. Speaks o B) (sym op) (inr refl))

-- it judges as the trace does
pub slice_judges : SliceJudges
slice_judges T n K v slice at verdict = go (subst (λ m. IsSlice T m K) (sym at) slice) verdict
  where
    go : IsSlice T v.event K → IsVerdictOf T v → IsVerdictOf (cut T K) (verdict_in K v)
    go here (OfPersist e is r op ordered pass) =
        let range = persist-range T v.event e r is op in
        let s = slice-subsequence T v.event K here (range-within T v.event r range) in
        let same = persist_stays T K v.event r s (slice-grounds T v.event K r here range) in
        OfPersist e (kept-event T K v.event s ((here.just v.event).1 (TheAssertion refl)) ∙ is) r op ordered (λ t. same.0 (pass.0 t), λ p. pass.1 (same.1 p))
    go here (OfOrdered e is r q op ordered pass) =
        let range = first-range T v.event e r q is op in
        let s = slice-subsequence T v.event K here (range-within T v.event r range) in
        let other = slice-grounds T v.event K q here (second-range T v.event e r q is op) in
        let same = ordered_stays T K v.event r q s (slice-grounds T v.event K r here range) other.stores in
        OfOrdered e (kept-event T K v.event s ((here.just v.event).1 (TheAssertion refl)) ∙ is) r q op ordered (λ t. same.0 (pass.0 t), λ p. pass.1 (same.1 p))

-- what holds of all numbers that a list has
pub all-has : (P : ℕ → Type 0) (K : List ℕ) → ((k : ℕ) → Has K k → P k) → AllByRecursion P K
all-has P [] each = tt
all-has P (k ∷ ks) each = (each k (inl refl), all-has P ks (λ j has. each j (inr has)))

-- the numbers of a slice are those of events
pub slice-within : (T : Recording) (n : ℕ) (K : List ℕ) → IsAssertion T n → IsSlice T n K → AllByRecursion (λ k. k ≤ length T.events) K
slice-within T n K (A, range) slice = all-has (λ k. k ≤ length T.events) K (slice-subsequence T n K slice (range-within T n A range)).within
