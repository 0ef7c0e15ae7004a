-- A useful flush, by its thread and line, and the fence that needs it.
use Rattle.std.proofs.Common.{ℕ, zero, suc, ◌-◌, ◌<◌, List, arith}
use Rattle.std.proofs.lemmas.Bool.Decides.{nat_tests}
use Rattle.pmt_laws.specs.Prelude.{Flushes, Fences, Recording, IsAct, count_at, front_at, Has, IsUsefulFlush, IsKept, IsKeep}
use Rattle.pmt_laws.proofs.Histories.{act-unique}
use Rattle.pmt_laws.proofs.KeepLemmas.{front-at_fence, raising-is-kept}

-- A useful flush by thread t of line l, where the fence that needs it comes right after place `before`.
pub record IsNeededFlush (T : Recording) (t l i : ℕ) : Type 0 where
  pub before : ℕ
  pub is_flush : IsAct T i (Flushes t l)
  pub is_fence : IsAct T (suc before) (Fences t)
  pub later : i < suc before
  pub next_fence : (k : ℕ) → i < k → k < suc before → ¬ IsAct T k (Fences t)
  pub last_flush : (k : ℕ) → i < k → k < suc before → ¬ IsAct T k (Flushes t l)
  pub needed : front_at T l before < count_at T l i

-- a flush that a fence at j needs is needed
needed-by : (T : Recording) (t l i j : ℕ) → IsAct T i (Flushes t l) → IsAct T j (Fences t) → i < j → ((k : ℕ) → i < k → k < j → ¬ IsAct T k (Fences t)) →
    ((k : ℕ) → i < k → k < j → ¬ IsAct T k (Flushes t l)) → front_at T l (j - 1) < count_at T l i → IsNeededFlush T t l i
needed-by T t l i zero flush fence later next last needed = absurd (omega arith)
needed-by T t l i (suc m) flush fence later next last needed = grind (arith, nat_tests)

-- a useful flush is needed
pub useful-needed : (T : Recording) (i : ℕ) (u : IsUsefulFlush T i) → IsNeededFlush T u.thread u.line i
useful-needed T i u = needed-by T u.thread u.line i u.fence u.is_flush u.is_fence u.later u.next_fence u.last_flush u.needed

-- a kept flush is needed
pub kept-needed : (T : Recording) (t l i : ℕ) → IsKept T i → IsAct T i (Flushes t l) → IsNeededFlush T t l i
kept-needed T t l i is flush = grind (arith, nat_tests, act-unique, useful-needed)

-- the fence that needs a flush raises the front of its line
pub needed-raises : (T : Recording) (t l i : ℕ) (f : IsNeededFlush T t l i) → front_at T l f.before < front_at T l (suc f.before)
needed-raises T t l i f = omega (arith, f.needed, front-at_fence T t l i (suc f.before) f.is_flush f.is_fence f.later)

-- the fence that needs a flush is kept
pub needing-kept : (T : Recording) (K : List ℕ) (t l i : ℕ) → IsKeep T K → (f : IsNeededFlush T t l i) → Has K (suc f.before)
needing-kept T K t l i keep f =
    (keep.just (suc f.before)).1 (raising-is-kept T l f.before (Fences t) f.is_fence (λ same. absurd (omega (arith, needed-raises T t l i f))))
