-- Flushes and clflushes that are redundant, fences without flush, and stores that are never persisted.
use Rattle.std.proofs.Common.{◌≡◌, ℕ, suc, ◌-◌, ◌<◌, ◌≤◌, ◌⊎◌, inl, inr, Bool, true, false, ◌==◌, ◌&&◌, List, [], ◌∷◌, length, max, unwrap_or, refl, ap, arith}
use Rattle.std.specs.Prelude.{if◌then◌else◌, ◌||◌, ◌↔◌}
use Rattle.std.proofs.lemmas.Bool.{cases_lt, cases_eq, ne_eqb}
use Rattle.std.proofs.lemmas.Bool.Decides.{nat_tests}
use Rattle.pmt_laws.specs.Prelude.{Act, Stores, Flushes, Clflushes, count, Recording, history, count_at, front, front_at, mark, open_mark, IsRedundantFlush, IsRedundantClflush}
use Rattle.pmt_laws.proofs.Histories.{history-act, front-grows, mark-le-count}
use Rattle.pmt_laws.proofs.NeverLemmas.{never_persisted_by_fronts}
use Rattle.pmt_laws.proofs.RedundantLemmas.{redundant_flush_by_fronts, redundant_clflush_by_fronts}
use Rattle.pmt_safety.specs.Safety.{last_line_store_at, safe_store_at, has_flushed, NeverPersistedByStores, RedundantFlushByStores, RedundantClflushByStores}
use Rattle.pmt_safety.proofs.StoreLemmas.{count-last, count-safe, last-is_store, line_store-by, safe-le_last}
use Rattle.pmt_safety.proofs.SafetyLemmas.{front-below}

pub never_persisted_by_stores : NeverPersistedByStores
never_persisted_by_stores T l j w is =
    let by_fronts = never_persisted_by_fronts T l j w is in
    let below = front-below T l (length T.events) j w is in (
      λ never. below.0 (by_fronts.0 never),
      λ later. by_fronts.1 (below.1 later),
    )

-- the front counts all stores exactly where the last one is safe
pub all-safe : (T : Recording) (l n : ℕ) → (count_at T l n ≤ front_at T l n) ↔ (safe_store_at T l n ≡ last_line_store_at T l n)
all-safe T l n = (
  λ all. omega (arith, safe-le_last T l n, line_store-by T l n (last_line_store_at T l n) (safe_store_at T l n) (last-is_store T l n) (omega (arith, all, count-last T l n, count-safe T l n))),
  λ same. let e : count_at T l (safe_store_at T l n) ≡ count_at T l (last_line_store_at T l n) = ap (count_at T l) same in omega (arith, e, count-last T l n, count-safe T l n),
)

-- a thread that has flushed the line since its last store marks all of them
flushed-marks : (t l : ℕ) (h : List Act) → has_flushed t l h ≡ true → count l h ≤ mark t l h
flushed-marks t l [] had = omega arith
flushed-marks t l (Stores k w ∷ h) had = grind (arith, nat_tests, flushed-marks t l h)
flushed-marks t l (Flushes u k ∷ h) had = go ((u == t) && (k == l)) (flushed-marks t l h) had
  where
    go : (b : Bool) → (has_flushed t l h ≡ true → count l h ≤ mark t l h) → (b || has_flushed t l h) ≡ true → count l h ≤ (if b then count l h else mark t l h)
    go true before had = omega arith
    go false before had = before had
flushed-marks t l (a ∷ h) had = flushed-marks t l h had

-- and one that marks all of them, where there is one, has flushed it since
marks-flushed : (t l : ℕ) (h : List Act) → 0 < count l h → count l h ≤ mark t l h → has_flushed t l h ≡ true
marks-flushed t l [] some all = absurd (omega arith)
marks-flushed t l (Stores k w ∷ h) some all = grind (arith, nat_tests, mark-le-count, marks-flushed t l h)
marks-flushed t l (Flushes u k ∷ h) some all = go ((u == t) && (k == l)) (marks-flushed t l h) some all
  where
    go : (b : Bool) → (0 < count l h → count l h ≤ mark t l h → has_flushed t l h ≡ true) → 0 < count l h → count l h ≤ (if b then count l h else mark t l h) → (b || has_flushed t l h) ≡ true
    go true before some all = refl
    go false before some all = before some all
marks-flushed t l (a ∷ h) some all = marks-flushed t l h some all

-- an open mark is the thread's, and one that is no more open is in the front
open-marked : (t l : ℕ) (h : List Act) → (unwrap_or (open_mark t l h) 0 ≤ mark t l h) × (mark t l h ≤ max (front l h) (unwrap_or (open_mark t l h) 0))
open-marked t l [] = (omega arith, omega arith)
open-marked t l (hd ∷ tl) = grind (arith, nat_tests, front-grows, cases_eq, ne_eqb, open-marked t l tl)

-- the front or the open mark counts all stores exactly where the front does, or the thread has flushed the line since the last one
covered : (t l : ℕ) (h : List Act) → (count l h ≤ max (front l h) (unwrap_or (open_mark t l h) 0)) ↔ ((count l h ≤ front l h) ⊎ (has_flushed t l h ≡ true))
covered t l h = grind (arith, nat_tests, cases_lt, marks-flushed, open-marked, flushed-marks)

pub redundant_flush_by_stores : RedundantFlushByStores
redundant_flush_by_stores T t l n is = (there, back)
  where
    before : suc n - 1 ≡ n
    before = omega arith

    same : count_at T l (suc n) ≡ count_at T l n
    same = ap (count l) (history-act T n (Flushes t l) is)

    law : IsRedundantFlush T t l (suc n) ↔ (count_at T l (suc n) ≤ max (front_at T l n) (unwrap_or (open_mark t l (history T n)) 0))
    law = rw before at (redundant_flush_by_fronts T t l (suc n) is)

    there : IsRedundantFlush T t l (suc n) → (safe_store_at T l n ≡ last_line_store_at T l n) ⊎ (has_flushed t l (history T n) ≡ true)
    there it = elim ((covered t l (history T n)).0 (omega (arith, law.0 it, same))) [ inl safe ↦ inl ((all-safe T l n).0 safe) | inr had ↦ inr had ]

    back : (safe_store_at T l n ≡ last_line_store_at T l n) ⊎ (has_flushed t l (history T n) ≡ true) → IsRedundantFlush T t l (suc n)
    back (inl safe) = law.1 (omega (arith, same, (covered t l (history T n)).1 (inl ((all-safe T l n).1 safe))))
    back (inr had) = law.1 (omega (arith, same, (covered t l (history T n)).1 (inr had)))

pub redundant_clflush_by_stores : RedundantClflushByStores
redundant_clflush_by_stores T l n is = (λ it. (all-safe T l n).0 (omega (arith, law.0 it, same)), λ safe. law.1 (omega (arith, same, (all-safe T l n).1 safe)))
  where
    before : suc n - 1 ≡ n
    before = omega arith

    same : count_at T l (suc n) ≡ count_at T l n
    same = ap (count l) (history-act T n (Clflushes l) is)

    law : IsRedundantClflush T l (suc n) ↔ (count_at T l (suc n) ≤ front_at T l n)
    law = rw before at (redundant_clflush_by_fronts T l (suc n) is)
