-- A store to a line is safe exactly up to the last safe one.
use Rattle.std.proofs.Common.{◌≡◌, ℕ, ◌<◌, ◌≤◌, ◌⊎◌, inl, inr, arith}
use Rattle.std.specs.Prelude.{◌↔◌}
use Rattle.std.proofs.lemmas.Bool.{cases_lt}
use Rattle.pmt_laws.specs.Prelude.{Written, Stores, Recording, IsAct, history, count_at, front_at, IsSafe}
use Rattle.pmt_laws.proofs.Histories.{count-mono, front-mono}
use Rattle.pmt_laws.proofs.AssertLemmas.{front-le-persisted, least_end}
use Rattle.pmt_safety.specs.Safety.{safe_store_at, IsLastSafe, SafeStoreIsLast, IsSafeFrom, SafeFromIsPassed}
use Rattle.pmt_safety.proofs.StoreLemmas.{store-by, count-safe, IsLineStore, safe-is_store}

-- A store is safe where its rank is at most the front.
safe-from_front : (T : Recording) (l n j : ℕ) → count_at T l j ≤ front_at T l n → IsSafe T l n j
safe-from_front T l n j covered s ends = omega (arith, covered, front-le-persisted (history T n) s ends l)

-- And only there.
front-from_safe : (T : Recording) (l n j : ℕ) → IsSafe T l n j → count_at T l j ≤ front_at T l n
front-from_safe T l n j safe = let least = least_end (history T n) in omega (arith, safe least.0 least.1, least.2 l)

-- The rank of a store is at most the front exactly where the store comes no later than the last safe one.
pub front-covers : (T : Recording) (l n j : ℕ) (w : Written) → IsAct T j (Stores l w) → (count_at T l j ≤ front_at T l n) ↔ (j ≤ safe_store_at T l n)
front-covers T l n j w is = (
  λ covered. store-by T l j (safe_store_at T l n) w is (omega (arith, covered, count-safe T l n)),
  λ by_now. omega (arith, count-mono T l j (safe_store_at T l n) by_now, count-safe T l n),
)

-- So it is above the front exactly where it comes later.
pub front-below : (T : Recording) (l n j : ℕ) (w : Written) → IsAct T j (Stores l w) → (front_at T l n < count_at T l j) ↔ (safe_store_at T l n < j)
front-below T l n j w is = (there, back)
  where
    there : front_at T l n < count_at T l j → safe_store_at T l n < j
    there below = elim (cases_lt (safe_store_at T l n) j) [ inl later ↦ later | inr by_now ↦ absurd (omega (arith, below, (front-covers T l n j w is).1 by_now)) ]

    back : safe_store_at T l n < j → front_at T l n < count_at T l j
    back later = elim (cases_lt (front_at T l n) (count_at T l j)) [ inl below ↦ below | inr covered ↦ absurd (omega (arith, later, (front-covers T l n j w is).0 covered)) ]

pub safe-up_to : (T : Recording) (l n j : ℕ) (w : Written) → IsAct T j (Stores l w) → IsSafe T l n j ↔ (j ≤ safe_store_at T l n)
safe-up_to T l n j w is = (
  λ safe. (front-covers T l n j w is).0 (front-from_safe T l n j safe),
  λ by_now. safe-from_front T l n j ((front-covers T l n j w is).1 by_now),
)

last-safe : (T : Recording) (l n : ℕ) → IsLastSafe T l n (safe_store_at T l n)
last-safe T l n = record { reached = go (safe-is_store T l n); greatest = λ j w is safe. (safe-up_to T l n j w is).0 safe }
  where
    go : IsLineStore T l n (safe_store_at T l n) → (safe_store_at T l n ≡ 0) ⊎ ((w : Written) × IsAct T (safe_store_at T l n) (Stores l w) × IsSafe T l n (safe_store_at T l n))
    go (inl none) = inl none
    go (inr x) = inr (x.0, x.1, (safe-up_to T l n (safe_store_at T l n) x.0 x.1).1 (omega arith))

pub safe_store_is_last : SafeStoreIsLast
safe_store_is_last = record { last = last-safe; up_to = safe-up_to }

-- A store that is safe stays so.
pub safe-later : (T : Recording) (l m n j : ℕ) → m ≤ n → IsSafe T l m j → IsSafe T l n j
safe-later T l m n j h safe = safe-from_front T l n j (omega (arith, front-from_safe T l m j safe, front-mono T l m n h))

passed : (T : Recording) (l j p : ℕ) (w : Written) → IsAct T j (Stores l w) → IsSafeFrom T l j p ↔ ((j ≤ safe_store_at T l p) × ((m : ℕ) → m < p → safe_store_at T l m < j))
passed T l j p w is = (there, back)
  where
    there : IsSafeFrom T l j p → (j ≤ safe_store_at T l p) × ((m : ℕ) → m < p → safe_store_at T l m < j)
    there it = (
      (safe-up_to T l p j w is).0 it.safe,
      λ m before. elim (cases_lt (safe_store_at T l m) j) [ inl later ↦ later | inr by_now ↦ absurd (it.first m before ((safe-up_to T l m j w is).1 by_now)) ],
    )

    back : (j ≤ safe_store_at T l p) × ((m : ℕ) → m < p → safe_store_at T l m < j) → IsSafeFrom T l j p
    back it = record {
      safe = (safe-up_to T l p j w is).1 it.0;
      first = λ m before safe. absurd (omega (arith, it.1 m before, (safe-up_to T l m j w is).0 safe));
    }

from_then : (T : Recording) (l j p n : ℕ) (w : Written) → IsAct T j (Stores l w) → IsSafeFrom T l j p → IsSafe T l n j ↔ (p ≤ n)
from_then T l j p n w is it = (
  λ safe. elim (cases_lt n p) [ inl before ↦ absurd (it.first n before safe) | inr from ↦ from ],
  λ from. safe-later T l p n j from it.safe,
)

pub safe_from_is_passed : SafeFromIsPassed
safe_from_is_passed = record { passed = passed; from_then = from_then }
