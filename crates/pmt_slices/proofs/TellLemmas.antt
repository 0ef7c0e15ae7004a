-- Where a store is safe first, and what completes a flush there.
use Rattle.pmt_slices.proofs.Prelude.{◌≡◌, ℕ, zero, suc, ◌<◌, ◌≤◌, ◌⊎◌, inl, inr, subst, arith, ◌↔◌, cases_lt, Written, Stores, Flushes, Clflushes, Fences, Recording, IsAct, IsSafe, IsSafeFrom, safe-up_to, ByFence, ByItself, IsCompletedAfter, IsFirstFlushBy}
use Rattle.pmt_reasons.proofs.CauseLaws.{flush-dec}
use Rattle.pmt_slices.proofs.CoverLemmas.{completed-safe}

-- a store is safe exactly where a flush of its line after it is complete
pub completed-is_safe : (T : Recording) (l j n : ℕ) (w : Written) → IsAct T j (Stores l w) → IsCompletedAfter T l j n ↔ IsSafe T l n j
completed-is_safe T l j n w is = (
  λ it. (safe-up_to T l n j w is).1 ((completed-safe T l j n w is).0 it),
  λ safe. (completed-safe T l j n w is).1 ((safe-up_to T l n j w is).0 safe),
)

-- What first completes a flush of line l after event j: a fence, whose thread flushed the line, or a clflush of it.
pub data IsFirstCompletion (T : Recording) (l j p : ℕ) : Type 0 where
  AFence : (t flush : ℕ) → IsAct T p (Fences t) → IsAct T flush (Flushes t l) → j < flush → flush < p → IsFirstCompletion T l j p
  AClflush : IsAct T p (Clflushes l) → j < p → IsFirstCompletion T l j p

-- where a store is safe first, a flush is completed first
pub first-completion : (T : Recording) (l j p : ℕ) (w : Written) → IsAct T j (Stores l w) → IsSafeFrom T l j p → IsFirstCompletion T l j p
first-completion T l j p w is from = go ((completed-is_safe T l j p w is).1 from.safe)
  where
    early : (q : ℕ) → q < p → IsCompletedAfter T l j q → ⊥
    early q before it = from.first q before ((completed-is_safe T l j q w is).0 it)

    go : IsCompletedAfter T l j p → IsFirstCompletion T l j p
    go (i, after, ByFence t fence flush f later by_now) = elim (cases_lt fence p) [
      | inl before ↦ absurd (early fence before (i, after, ByFence t fence flush f later (omega arith)))
      | inr here ↦ let e : fence ≡ p = omega arith in AFence t i (subst (λ k. IsAct T k (Fences t)) e f) flush after (omega arith)
    ]
    go (i, after, ByItself flush by_now) = elim (cases_lt i p) [
      | inl before ↦ absurd (early i before (i, after, ByItself flush (omega arith)))
      | inr here ↦ let e : i ≡ p = omega arith in AClflush (subst (λ k. IsAct T k (Clflushes l)) e flush) (omega arith)
    ]

-- the first flush of a line by a thread, up to a place, if there is one
first-flush-or : (T : Recording) (t l j n : ℕ) → ((f : ℕ) × (f ≤ n) × IsFirstFlushBy T t l j f) ⊎ ((k : ℕ) → j < k → k ≤ n → ¬ IsAct T k (Flushes t l))
first-flush-or T t l j zero = inr (λ k after by is. absurd (omega arith))
first-flush-or T t l j (suc n) = elim (first-flush-or T t l j n) [
  | inl x ↦ inl (x.0, omega (arith, x.1), x.2)
  | inr none ↦ elim (cases_lt j (suc n)) [
    | inl after ↦ elim (flush-dec T t l n) [
      | inl here ↦ inl (suc n, omega arith, record { is_flush = here; after = after; first = λ k later before. none k later (omega arith) })
      | inr other ↦ inr (λ k later by. elim (cases_lt k (suc n)) [
        | inl sooner ↦ none k later (omega arith)
        | inr last ↦ let e : suc n ≡ k = omega arith in subst (λ i. ¬ IsAct T i (Flushes t l)) e other
      ])
    ]
    | inr before ↦ inr (λ k later by is. absurd (omega arith))
  ]
]

-- there is one no later than any
pub first-flush : (T : Recording) (t l j i : ℕ) → IsAct T i (Flushes t l) → j < i → (f : ℕ) × (f ≤ i) × IsFirstFlushBy T t l j f
first-flush T t l j i is after = elim (first-flush-or T t l j i) [ inl x ↦ x | inr none ↦ absurd (none i after (omega arith) is) ]

-- and no other
pub first-flush-unique : (T : Recording) (t l j f g : ℕ) → IsFirstFlushBy T t l j f → IsFirstFlushBy T t l j g → f ≡ g
first-flush-unique T t l j f g x y = elim (cases_lt f g) [
  | inl less ↦ absurd (y.first f x.after less x.is_flush)
  | inr more ↦ elim (cases_lt g f) [ inl less ↦ absurd (x.first g y.after less y.is_flush) | inr equal ↦ omega arith ]
]
