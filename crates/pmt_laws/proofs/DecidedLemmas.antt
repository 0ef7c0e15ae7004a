-- A trace and the same trace with more events: what is decided of the first holds of both.
use Rattle.std.proofs.Common.{◌≡◌, ℕ, zero, suc, ◌-◌, ◌<◌, ◌≤◌, ◌⊎◌, inl, inr, List, [], ◌∷◌, ◌++◌, length, map, reverse, slice_get, refl, sym, ap, subst, ◌∙◌, true≢false, arith}
use Rattle.std.proofs.lemmas.Bool.{cases_eq, cases_lt}
use Rattle.std.proofs.lemmas.List.{take-append-le, length-append}
use Rattle.pmt_laws.specs.Prelude.{Event, Act, Flushes, Clflushes, Fences, Recording, act, event, IsAct, history, always_stays, with_events}
use Rattle.pmt_model.specs.Keeping.{IsUsefulFlush, IsKept, Stays, ByFence, ByFlush, ByClflush}
use Rattle.pmt_laws.proofs.Histories.{act-within, act-unique, history-step}
use Rattle.pmt_laws.specs.Passing.{IsOpenFlush, IsDecided, DecidedStays, DecidedOrOpen, OpenIsDropped}

-- the events of a list stay where more follow
slice_get-left : (xs ys : List Event) (i : ℕ) → i < length xs → slice_get (xs ++ ys) i ≡ slice_get xs i
slice_get-left [] ys i h = absurd (omega arith)
slice_get-left (x ∷ xs) ys zero h = refl
slice_get-left (x ∷ xs) ys (suc i) h = slice_get-left xs ys i (omega arith)

pub event-more : (T : Recording) (more : List Event) (i : ℕ) → i ≤ length T.events → event (with_events T more) i ≡ event T i
event-more T more zero h = refl
event-more T more (suc i) h = slice_get-left T.events more i (omega arith)

-- so do their acts
pub act-more : (T : Recording) (more : List Event) (i : ℕ) (a : Act) → IsAct T i a → IsAct (with_events T more) i a
act-more T more i a is = (is.0, event-more T more i (act-within T i a is).1 ∙ is.1, is.2)

pub act-less : (T : Recording) (more : List Event) (i : ℕ) (a : Act) → i ≤ length T.events → IsAct (with_events T more) i a → IsAct T i a
act-less T more i a h is = (is.0, sym (event-more T more i h) ∙ is.1, is.2)

-- and the histories of their places
pub history-more : (T : Recording) (more : List Event) (n : ℕ) → n ≤ length T.events → history (with_events T more) n ≡ history T n
history-more T more n h = ap (λ xs. reverse (map (act T.format) xs)) (take-append-le n T.events more h)

-- Two traces have the same events and histories up to place n.
pub record IsSameTo (n : ℕ) (T U : Recording) : Type 0 where
  pub acts : (i : ℕ) (a : Act) → i ≤ n → IsAct T i a → IsAct U i a
  pub back : (i : ℕ) (a : Act) → i ≤ n → IsAct U i a → IsAct T i a
  pub histories : (i : ℕ) → i ≤ n → history U i ≡ history T i

same-more : (T : Recording) (more : List Event) → IsSameTo (length T.events) T (with_events T more)
same-more T more = record { acts = λ i a h is. act-more T more i a is; back = λ i a h is. act-less T more i a h is; histories = λ i h. history-more T more i h }

same-less : (n : ℕ) (T U : Recording) → IsSameTo n T U → IsSameTo n U T
same-less n T U s = record { acts = s.back; back = s.acts; histories = λ i h. sym (s.histories i h) }

-- what is kept by events up to place n is kept in both
kept-same : (n : ℕ) (T U : Recording) (k : ℕ) → IsSameTo n T U → k ≤ n → ((u : IsUsefulFlush T k) → u.fence ≤ n) → IsKept T k → IsKept U k
kept-same n T U k s h fences (Stays a is stays) = Stays a (s.acts k a h is) stays
kept-same n T U k s h fences (ByFence u) = ByFence (record {
  thread = u.thread;
  line = u.line;
  is_fence = s.acts k (Fences u.thread) h u.is_fence;
  raises = rw (s.histories k h, s.histories (k - 1) (omega arith)) u.raises;
})
kept-same n T U k s h fences (ByFlush u) =
    let by_now : u.fence ≤ n = fences u in
    ByFlush (record {
      thread = u.thread;
      line = u.line;
      fence = u.fence;
      is_flush = s.acts k (Flushes u.thread u.line) h u.is_flush;
      is_fence = s.acts u.fence (Fences u.thread) by_now u.is_fence;
      later = u.later;
      next_fence = λ j after before is. u.next_fence j after before (s.back j (Fences u.thread) (omega arith) is);
      last_flush = λ j after before is. u.last_flush j after before (s.back j (Flushes u.thread u.line) (omega arith) is);
      needed = rw (s.histories (u.fence - 1) (omega arith), s.histories k h) u.needed;
    })
kept-same n T U k s h fences (ByClflush u) = ByClflush (record {
  line = u.line;
  is_clflush = s.acts k (Clflushes u.line) h u.is_clflush;
  raises = rw (s.histories k h, s.histories (k - 1) (omega arith)) u.raises;
})

-- the fence that needs a flush comes no later than any fence of its thread
fence-soon : (T : Recording) (k n : ℕ) (u : IsUsefulFlush T k) → (j : ℕ) → k < j → j ≤ n → IsAct T j (Fences u.thread) → u.fence ≤ n
fence-soon T k n u j after by_now is = elim (cases_lt j u.fence) [ inl before ↦ absurd (u.next_fence j after before is) | inr h ↦ omega arith ]

still_decided : (T : Recording) (more : List Event) (k : ℕ) → IsDecided T k → IsDecided (with_events T more) k
still_decided T more k d = record {
  by_now = omega (arith, d.by_now, length-append T.events more);
  fenced = λ t l is.
      let fence = d.fenced t l (act-less T more k (Flushes t l) d.by_now is) in
      (fence.0, fence.1, act-more T more fence.0 (Fences t) fence.2);
}

pub decided_stays : DecidedStays
decided_stays T more k d = (still_decided T more k d, (there, back))
  where
    U : Recording
    U = with_events T more

    n : ℕ
    n = length T.events

    there : IsKept T k → IsKept U k
    there kept = kept-same n T U k (same-more T more) d.by_now (λ u. (act-within T u.fence (Fences u.thread) u.is_fence).1) kept

    soon : (u : IsUsefulFlush U k) → u.fence ≤ n
    soon u =
        let fence = d.fenced u.thread u.line (act-less T more k (Flushes u.thread u.line) d.by_now u.is_flush) in
        fence-soon U k n u fence.0 fence.1 (act-within T fence.0 (Fences u.thread) fence.2).1 (act-more T more fence.0 (Fences u.thread) fence.2)

    back : IsKept U k → IsKept T k
    back kept = kept-same n U T k (same-less n T U (same-more T more)) d.by_now soon kept

-- an act is a fence of the thread, or not
fence-dec : (t : ℕ) (a : Act) → (a ≡ Fences t) ⊎ (a ≡ Fences t → ⊥)
fence-dec t (Fences u) = elim (cases_eq u t) [ inl e ↦ inl (ap Fences e) | inr other ↦ inr (λ e. other (cc)) ]
fence-dec t a = inr (λ e. cc)

-- A fence of the thread after event k, up to place n.
abbrev IsFencedTo : Recording → ℕ → ℕ → ℕ → Type 0
IsFencedTo T t k n = (j : ℕ) × (k < j) × (j ≤ n) × IsAct T j (Fences t)

-- the thread has fenced after event k, or not
fenced-dec : (T : Recording) (t k n : ℕ) → IsFencedTo T t k n ⊎ ((j : ℕ) → k < j → j ≤ n → ¬ IsAct T j (Fences t))
fenced-dec T t k zero = inr (λ j after by_now is. absurd (omega arith))
fenced-dec T t k (suc n) = elim (fenced-dec T t k n) [
  | inl f ↦ inl (f.0, f.1, let h : f.0 ≤ n = f.2 in omega arith, f.3)
  | inr none ↦ go none (cases_lt k (suc n)) (history-step T n)
]
  where
    go : ((j : ℕ) → k < j → j ≤ n → ¬ IsAct T j (Fences t)) → (k < suc n) ⊎ (suc n ≤ k) → ((a : Act) × IsAct T (suc n) a) ⊎ ((length T.events ≤ n) × (history T (suc n) ≡ history T n)) →
        IsFencedTo T t k (suc n) ⊎ ((j : ℕ) → k < j → j ≤ suc n → ¬ IsAct T j (Fences t))
    go none (inr past) step = inr (λ j after by_now is. absurd (omega arith))
    go none (inl before) (inr ended) = inr (λ j after by_now is. none j after (let within = (act-within T j (Fences t) is).1 in omega (arith, ended.0)) is)
    go none (inl before) (inl x) = elim (fence-dec t x.0) [
      | inl e ↦ inl (suc n, before, omega arith, (x.1.0, x.1.1, x.1.2 ∙ e))
      | inr other ↦ inr (λ j after by_now is. at none x other j after by_now is (cases_lt j (suc n)))
    ]
      where
        at : ((j : ℕ) → k < j → j ≤ n → ¬ IsAct T j (Fences t)) → (x : (a : Act) × IsAct T (suc n) a) → (x.0 ≡ Fences t → ⊥) → (j : ℕ) → k < j → j ≤ suc n → IsAct T j (Fences t) → (j < suc n) ⊎ (suc n ≤ j) → ⊥
        at none x other j after by_now is (inl early) = none j after (omega arith) is
        at none x other j after by_now is (inr late) = let e : j ≡ suc n = omega arith in other (act-unique T (suc n) x.0 (Fences t) x.1 (subst (λ i. IsAct T i (Fences t)) e is))

-- an event that has come is an open flush or decided
pub open-or_decided : (T : Recording) (k : ℕ) → k ≤ length T.events → IsOpenFlush T k ⊎ IsDecided T k
open-or_decided T zero h = inr (record { by_now = h; fenced = λ t l is. absurd (omega (arith, (act-within T zero (Flushes t l) is).0)) })
open-or_decided T (suc i) h = elim (history-step T i) [
  | inl x ↦ go x.0 x.1
  | inr past ↦ absurd (omega (arith, past.0))
]
  where
    no_flush : (a : Act) → IsAct T (suc i) a → ((t l : ℕ) → a ≡ Flushes t l → ⊥) → IsOpenFlush T (suc i) ⊎ IsDecided T (suc i)
    no_flush a is other = inr (record { by_now = h; fenced = λ t l flush. absurd (other t l (act-unique T (suc i) a (Flushes t l) is flush)) })

    flush : (t l : ℕ) → IsAct T (suc i) (Flushes t l) → IsFencedTo T t (suc i) (length T.events) ⊎ ((j : ℕ) → suc i < j → j ≤ length T.events → ¬ IsAct T j (Fences t)) →
        IsOpenFlush T (suc i) ⊎ IsDecided T (suc i)
    flush t l is (inl f) = inr (record {
      by_now = h;
      fenced = λ u k other. let same = act-unique T (suc i) (Flushes t l) (Flushes u k) is other in let thread : t ≡ u = cc in (f.0, f.1, subst (λ v. IsAct T f.0 (Fences v)) thread f.3);
    })
    flush t l is (inr none) = inl (record { thread = t; line = l; is_flush = is; unfenced = λ j after fence. none j after (act-within T j (Fences t) fence).1 fence })

    go : (a : Act) → IsAct T (suc i) a → IsOpenFlush T (suc i) ⊎ IsDecided T (suc i)
    go (Flushes t l) is = flush t l is (fenced-dec T t (suc i) (length T.events))
    go a is = no_flush a is (λ t l e. cc)

open-undecided : (T : Recording) (k : ℕ) → IsOpenFlush T k → ¬ IsDecided T k
open-undecided T k o d = let fence = d.fenced o.thread o.line o.is_flush in o.unfenced fence.0 fence.1 fence.2

pub decided_or_open : DecidedOrOpen
decided_or_open = record {
  either = λ T k h undecided. elim (open-or_decided T k h) [ inl o ↦ o | inr d ↦ absurd (undecided d) ];
  not_both = open-undecided;
}

pub open_is_dropped : OpenIsDropped
open_is_dropped T k o (Stays a is stays) = absurd (true≢false (sym stays ∙ ap always_stays (act-unique T k a (Flushes o.thread o.line) is o.is_flush)))
open_is_dropped T k o (ByFence u) = let same = act-unique T k (Fences u.thread) (Flushes o.thread o.line) u.is_fence o.is_flush in cc
open_is_dropped T k o (ByFlush u) =
    let same = act-unique T k (Flushes u.thread u.line) (Flushes o.thread o.line) u.is_flush o.is_flush in
    let thread : u.thread ≡ o.thread = cc in
    o.unfenced u.fence u.later (subst (λ t. IsAct T u.fence (Fences t)) thread u.is_fence)
open_is_dropped T k o (ByClflush u) = let same = act-unique T k (Clflushes u.line) (Flushes o.thread o.line) u.is_clflush o.is_flush in cc
