-- The carry, followed by the events of the stretch, is the part.
use Rattle.pmt_part_laws.proofs.Prelude.{ℕ, zero, suc, ◌+◌, ◌-◌, ◌<◌, ◌≤◌, inl, inr, List, [], ◌∷◌, ◌++◌, refl, arith, ◌⊎◌, ◌↔◌, cases_lt, Recording, IsRising, Has, IsCarried, stretch, PartIsMade}

-- one list after the other has the numbers of both
pub has-both : (C S : List ℕ) (k : ℕ) → Has (C ++ S) k ↔ (Has C k ⊎ Has S k)
has-both [] S k = (λ has. inr has, back)
  where
    back : Has [] k ⊎ Has S k → Has S k
    back (inl none) = absurd none
    back (inr has) = has
has-both (c ∷ cs) S k = (there (has-both cs S k).0, back (has-both cs S k).1)
  where
    there : (Has (cs ++ S) k → Has cs k ⊎ Has S k) → Has (c ∷ (cs ++ S)) k → Has (c ∷ cs) k ⊎ Has S k
    there rest (inl first) = inl (inl first)
    there rest (inr more) = elim (rest more) [ inl has ↦ inl (inr has) | inr has ↦ inr has ]

    back : (Has cs k ⊎ Has S k → Has (cs ++ S) k) → Has (c ∷ cs) k ⊎ Has S k → Has (c ∷ (cs ++ S)) k
    back rest (inl (inl first)) = inl first
    back rest (inl (inr has)) = inr (rest (inl has))
    back rest (inr has) = inr (rest (inr has))

-- it rises where the first one ends by where the second one begins
pub rising-both : (low q : ℕ) (C S : List ℕ) → IsRising low C → ((k : ℕ) → Has C k → k ≤ q) → low ≤ q → IsRising q S → IsRising low (C ++ S)
rising-both low q [] [] rising by before more = tt
rising-both low q [] (s ∷ ss) rising by before more = (omega (arith, before, more.0), more.1)
rising-both low q (c ∷ cs) S rising by before more = (rising.0, rising-both c q cs S rising.1 (λ k has. by k (inr has)) (by c (inl refl)) more)

pub stretch-rising : (q n : ℕ) → IsRising q (stretch q n)
stretch-rising q zero = tt
stretch-rising q (suc n) = (omega arith, stretch-rising (suc q) n)

pub stretch-has : (q n k : ℕ) → Has (stretch q n) k ↔ ((q < k) × (k ≤ n + q))
stretch-has q zero k = (λ has. absurd has, λ x. absurd (omega (arith, x.0, x.1)))
stretch-has q (suc n) k = (there (stretch-has (suc q) n k).0, back (stretch-has (suc q) n k).1)
  where
    there : (Has (stretch (suc q) n) k → (suc q < k) × (k ≤ n + suc q)) → Has (suc q ∷ stretch (suc q) n) k → (q < k) × (k ≤ suc n + q)
    there rest (inl first) = (omega (arith, first), omega (arith, first))
    there rest (inr more) = let x = rest more in (omega (arith, x.0), omega (arith, x.1))

    back : ((suc q < k) × (k ≤ n + suc q) → Has (stretch (suc q) n) k) → (q < k) × (k ≤ suc n + q) → Has (suc q ∷ stretch (suc q) n) k
    back rest x = elim (cases_lt (suc q) k) [
      | inl later ↦ inr (rest (later, omega (arith, x.1)))
      | inr now ↦ inl (omega (arith, now, x.0))
    ]

-- a carried event comes by place q
carried-by : (T : Recording) (q k : ℕ) → IsCarried T q k → k ≤ q
carried-by T q k (inl store) = store.by_now
carried-by T q k (inr flush) = flush.by_now

pub part_is_made : PartIsMade
part_is_made T q r C carry order within = record {
  order = order;
  within = within;
  rising = rising-both 0 q C (stretch q (r - q)) carry.rising (λ k has. carried-by T q k ((carry.just k).0 has)) (omega arith) (stretch-rising q (r - q));
  just = λ k. (there k, back k);
}
  where
    there : (k : ℕ) → Has (C ++ stretch q (r - q)) k → IsCarried T q k ⊎ ((q < k) × (k ≤ r))
    there k has = elim ((has-both C (stretch q (r - q)) k).0 has) [
      | inl first ↦ inl ((carry.just k).0 first)
      | inr later ↦ let x = (stretch-has q (r - q) k).0 later in inr (x.0, omega (arith, x.1, order))
    ]

    back : (k : ℕ) → IsCarried T q k ⊎ ((q < k) × (k ≤ r)) → Has (C ++ stretch q (r - q)) k
    back k (inl carried) = (has-both C (stretch q (r - q)) k).1 (inl ((carry.just k).1 carried))
    back k (inr x) = (has-both C (stretch q (r - q)) k).1 (inr ((stretch-has q (r - q) k).1 (x.0, omega (arith, x.1, order))))
