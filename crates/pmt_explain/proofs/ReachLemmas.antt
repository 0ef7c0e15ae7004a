-- When the stores that a flush marks are safe.
use Rattle.std.proofs.Common.{◌≡◌, ℕ, ◌≤◌, ◌⊎◌, inl, inr, refl, arith}
use Rattle.pmt_laws.specs.Prelude.{Recording, count_at, front_at, IsCompleted}
use Rattle.pmt_laws.proofs.FrontLemmas.{completed-le_front, fronts_are_greatest}
use Rattle.pmt_explain.specs.Following.{IsCompleteBy, ByFence, ByItself}

-- a complete flush makes the stores that it marks safe
pub complete-front : (T : Recording) (l i p : ℕ) → IsCompleteBy T l i p → count_at T l i ≤ front_at T l p
complete-front T l i p (ByFence t fence flush f later by_now) =
    completed-le_front T l p (count_at T l i) (inl (record { thread = t; flush = i; fence = fence; is_flush = flush; is_fence = f; later = later; by_now = by_now; stores = refl }))
complete-front T l i p (ByItself flush by_now) = completed-le_front T l p (count_at T l i) (inr (record { clflush = i; is_clflush = flush; by_now = by_now; stores = refl }))

-- stores are safe by a complete flush that marks them
pub front-complete : (T : Recording) (l c p : ℕ) → c ≤ front_at T l p → (c ≡ 0) ⊎ ((i : ℕ) × (c ≤ count_at T l i) × IsCompleteBy T l i p)
front-complete T l c p safe = go (fronts_are_greatest T l p).reached
  where
    go : (front_at T l p ≡ 0) ⊎ IsCompleted T l p (front_at T l p) → (c ≡ 0) ⊎ ((i : ℕ) × (c ≤ count_at T l i) × IsCompleteBy T l i p)
    go (inl none) = inl (omega arith)
    go (inr (inl x)) = inr (x.flush, omega (arith, x.stores), ByFence x.thread x.fence x.is_flush x.is_fence x.later x.by_now)
    go (inr (inr x)) = inr (x.clflush, omega (arith, x.stores), ByItself x.is_clflush x.by_now)
