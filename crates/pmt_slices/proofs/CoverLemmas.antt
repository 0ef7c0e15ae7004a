-- Stores that are safe in a trace and in the trace cut to a subsequence.
use Rattle.pmt_slices.proofs.Prelude.{◌≡◌, ℕ, zero, suc, ◌<◌, ◌≤◌, ◌⊎◌, inl, inr, List, arith, ◌↔◌, cases_lt, Written, Stores, Flushes, Clflushes, Fences, Recording, IsAct, count_at, front_at, Has, cut, matching_place, act-within, count-mono, place-mono, rank-above, marks-later, safe_store_at, IsSafeFrom, front-covers, safe-up_to, safe-later, IsCompleteBy, ByFence, ByItself, IsCompletedAfter, IsSubsequence, HasCover}
use Rattle.pmt_explain.proofs.ReachLemmas.{complete-front, front-complete}
use Rattle.pmt_slices.specs.Slices.{ByFlush, ByClflush}
use Rattle.pmt_slices.proofs.CuttingLemmas.{kept-act, act-origin, placed-later, later-origin, placed-by}

-- a store that the front counts was marked by a flush after it that is complete
counted-completed : (T : Recording) (l j n : ℕ) (w : Written) → IsAct T j (Stores l w) → count_at T l j ≤ front_at T l n → IsCompletedAfter T l j n
counted-completed T l j n w is counted = go (front-complete T l (count_at T l j) n counted)
  where
    after : (i : ℕ) → count_at T l j ≤ count_at T l i → IsCompleteBy T l i n → j < i
    after i marks (ByFence t fence flush f later by_now) = marks-later T l j i w (Flushes t l) is flush (λ e. cc) marks
    after i marks (ByItself flush by_now) = marks-later T l j i w (Clflushes l) is flush (λ e. cc) marks

    go : (count_at T l j ≡ 0) ⊎ ((i : ℕ) × (count_at T l j ≤ count_at T l i) × IsCompleteBy T l i n) → IsCompletedAfter T l j n
    go (inl none) = absurd (omega (arith, none, rank-above T l 0 j w is (act-within T j (Stores l w) is).0))
    go (inr (i, marks, complete)) = (i, after i marks complete, complete)

-- a store is safe exactly where a flush of its line after it is complete
pub completed-safe : (T : Recording) (l j n : ℕ) (w : Written) → IsAct T j (Stores l w) → IsCompletedAfter T l j n ↔ (j ≤ safe_store_at T l n)
completed-safe T l j n w is = (
  λ it. (front-covers T l n j w is).0 (omega (arith, complete-front T l it.0 n it.2, count-mono T l j it.0 (omega (arith, it.1)))),
  λ by_now. counted-completed T l j n w is ((front-covers T l n j w is).1 by_now),
)

-- a store that is safe is so from some place on
pub first-safe : (T : Recording) (l j n : ℕ) (w : Written) → IsAct T j (Stores l w) → j ≤ safe_store_at T l n → (p : ℕ) × (p ≤ n) × IsSafeFrom T l j p
first-safe T l j zero w is safe = (0, omega arith, record { safe = (safe-up_to T l 0 j w is).1 safe; first = λ m before. absurd (omega arith) })
first-safe T l j (suc n) w is safe = elim (cases_lt (safe_store_at T l n) j) [
  | inl later ↦ (
    suc n,
    omega arith,
    record {
      safe = (safe-up_to T l (suc n) j w is).1 safe;
      first = λ m before early. omega (arith, later, (safe-up_to T l n j w is).0 (safe-later T l m n j (omega arith) early));
    },
  )
  | inr sooner ↦ let it = first-safe T l j n w is sooner in (it.0, omega (arith, it.1), it.2)
]

-- what covers a store in the trace covers it in the cut
cover-kept : (T : Recording) (K : List ℕ) (l j p n : ℕ) → IsSubsequence T K → p ≤ n → HasCover T (Has K) l j p → IsCompletedAfter (cut T K) l (matching_place K j) (matching_place K n)
cover-kept T K l j p n s by_now (ByFlush t flush is_flush is_fence after later has_flush has_fence) = (
  matching_place K flush,
  placed-later T K j flush s has_flush after,
  ByFence t (matching_place K p) (kept-act T K flush (Flushes t l) s has_flush is_flush) (kept-act T K p (Fences t) s has_fence is_fence)
      (placed-later T K flush p s has_fence later) (place-mono K p n by_now),
)
cover-kept T K l j p n s by_now (ByClflush is_clflush after has) =
    (matching_place K p, placed-later T K j p s has after, ByItself (kept-act T K p (Clflushes l) s has is_clflush) (place-mono K p n by_now))

-- what covers it in the cut covers it in the trace
cover-from : (T : Recording) (K : List ℕ) (l j n : ℕ) → IsSubsequence T K → IsCompletedAfter (cut T K) l (matching_place K j) (matching_place K n) → IsCompletedAfter T l j n
cover-from T K l j n s (i, after, ByFence t fence flush f later by_now) =
    let o = act-origin T K i (Flushes t l) s flush in
    let q = act-origin T K fence (Fences t) s f in
    (o.number, later-origin K j o.number (omega (arith, after, o.place)), ByFence t q.number o.is_act q.is_act (later-origin K o.number q.number (omega (arith, later, o.place, q.place))) (placed-by T K q.number n s q.chosen (omega (arith, by_now, q.place))))
cover-from T K l j n s (i, after, ByItself flush by_now) =
    let o = act-origin T K i (Clflushes l) s flush in
    (o.number, later-origin K j o.number (omega (arith, after, o.place)), ByItself o.is_act (placed-by T K o.number n s o.chosen (omega (arith, by_now, o.place))))

-- a chosen store, with what makes it safe first, is safe in the trace exactly where it is safe in the cut
pub safe-stays : (T : Recording) (K : List ℕ) (l j n : ℕ) (w : Written) → IsSubsequence T K → Has K j → IsAct T j (Stores l w) →
    ((p : ℕ) → p ≤ n → IsSafeFrom T l j p → HasCover T (Has K) l j p) → (j ≤ safe_store_at T l n) ↔ (matching_place K j ≤ safe_store_at (cut T K) l (matching_place K n))
safe-stays T K l j n w s chosen is covers = (there, back)
  where
    own : IsAct (cut T K) (matching_place K j) (Stores l w)
    own = kept-act T K j (Stores l w) s chosen is

    there : j ≤ safe_store_at T l n → matching_place K j ≤ safe_store_at (cut T K) l (matching_place K n)
    there safe =
        let first = first-safe T l j n w is safe in
        (completed-safe (cut T K) l (matching_place K j) (matching_place K n) w own).0 (cover-kept T K l j first.0 n s first.1 (covers first.0 first.1 first.2))

    back : matching_place K j ≤ safe_store_at (cut T K) l (matching_place K n) → j ≤ safe_store_at T l n
    back safe = (completed-safe T l j n w is).0 (cover-from T K l j n s ((completed-safe (cut T K) l (matching_place K j) (matching_place K n) w own).1 safe))
