-- The numbers that are chosen of a part: what it carries over a place, without some, and what comes after it.
use Rattle.pmt_parts.proofs.Prelude.{◌≡◌, ℕ, zero, suc, ◌+◌, ◌-◌, ◌<◌, ◌≤◌, inl, inr, Bool, true, false, List, [], ◌∷◌, ◌++◌, length, filter, append_assoc, refl, sym, ap, ◌∙◌, true≢false, arith, ◌⊎◌, ◌↔◌, not, Recording, IsRising, Has, ByteRange, is_ignored, IsCarried, IsCarry, stretch, IsTaken, AreChosen, not_from_false, has-both, rising-both, stretch-rising, stretch-has}

-- ---- Lists of numbers

-- one more number of the stretch
pub stretch-more : (q n : ℕ) → stretch q (suc n) ≡ stretch q n ++ (suc (q + n)) ∷ []
stretch-more q zero = let e : q + 0 ≡ q = omega arith in rw e refl
stretch-more q (suc n) =
    let e : suc q + n ≡ q + suc n = omega arith in
    ap (λ xs. suc q ∷ xs) (stretch-more (suc q) n ∙ ap (λ m. stretch (suc q) n ++ (suc m) ∷ []) e)

lower : (a b : ℕ) (xs : List ℕ) → a ≤ b → IsRising b xs → IsRising a xs
lower a b [] by rising = tt
lower a b (x ∷ xs) by rising = (omega (arith, by, rising.0), rising.1)

filter-rising : (p : ℕ → Bool) (low : ℕ) (xs : List ℕ) → IsRising low xs → IsRising low (filter p xs)
filter-rising p low [] rising = tt
filter-rising p low (x ∷ xs) rising = go (p x) refl (filter-rising p x xs rising.1)
  where
    go : (b : Bool) → p x ≡ b → IsRising x (filter p xs) → IsRising low (filter p (x ∷ xs))
    go true e rest = rw e (rising.0, rest)
    go false e rest = rw e (lower low x (filter p xs) (omega (arith, rising.0)) rest)

filter-has : (p : ℕ → Bool) (xs : List ℕ) (k : ℕ) → Has (filter p xs) k ↔ (Has xs k × (p k ≡ true))
filter-has p [] k = (λ has. absurd has, λ x. absurd x.0)
filter-has p (x ∷ xs) k = go (p x) refl (filter-has p xs k)
  where
    go : (b : Bool) → p x ≡ b → Has (filter p xs) k ↔ (Has xs k × (p k ≡ true)) → Has (filter p (x ∷ xs)) k ↔ (Has (x ∷ xs) k × (p k ≡ true))
    go true e rest = rw e (
      λ has. elim has [ inl first ↦ (inl first, ap p (sym first) ∙ e) | inr more ↦ let y = rest.0 more in (inr y.0, y.1) ],
      λ y. elim y.0 [ inl first ↦ inl first | inr more ↦ inr (rest.1 (more, y.1)) ],
    )
    go false e rest = rw e (
      λ has. let y = rest.0 has in (inr y.0, y.1),
      λ y. elim y.0 [ inl first ↦ absurd (true≢false (sym y.1 ∙ (ap p (sym first) ∙ e))) | inr more ↦ rest.1 (more, y.1) ],
    )

-- ---- The numbers that are chosen

abbrev pub chosen_list : Recording → List ByteRange → ℕ → List ℕ → List ℕ
chosen_list T ranges m C = filter (λ i. not (is_ignored T ranges i)) C ++ stretch m (length T.events - m)

not-true : (b : Bool) → not b ≡ true → b ≡ false
not-true true e = absurd (true≢false (sym e))
not-true false e = refl

pub chosen-rising : (T : Recording) (ranges : List ByteRange) (m : ℕ) (C : List ℕ) → IsCarry T m C → IsRising 0 (chosen_list T ranges m C)
chosen-rising T ranges m C carry =
    rising-both 0 m (filter told C) (stretch m (length T.events - m)) (filter-rising told 0 C carry.rising)
    (λ k has. by k ((carry.just k).0 ((filter-has told C k).0 has).0)) (omega arith) (stretch-rising m (length T.events - m))
  where
    told : ℕ → Bool
    told i = not (is_ignored T ranges i)

    by : (k : ℕ) → IsCarried T m k → k ≤ m
    by k (inl store) = store.by_now
    by k (inr flush) = flush.by_now

pub chosen-are : (T : Recording) (ranges : List ByteRange) (m : ℕ) (C : List ℕ) → IsCarry T m C → AreChosen T ranges m (chosen_list T ranges m C)
chosen-are T ranges m C carry i = (there, back)
  where
    told : ℕ → Bool
    told k = not (is_ignored T ranges k)

    there : Has (chosen_list T ranges m C) i → IsTaken T ranges m i ⊎ ((m < i) × (i ≤ length T.events))
    there has = elim ((has-both (filter told C) (stretch m (length T.events - m)) i).0 has) [
      | inl first ↦ let x = (filter-has told C i).0 first in inl ((carry.just i).0 x.0, not-true (is_ignored T ranges i) x.1)
      | inr later ↦ let x = (stretch-has m (length T.events - m) i).0 later in inr (x.0, omega (arith, x.0, x.1))
    ]

    back : IsTaken T ranges m i ⊎ ((m < i) × (i ≤ length T.events)) → Has (chosen_list T ranges m C) i
    back (inl taken) = (has-both (filter told C) (stretch m (length T.events - m)) i).1 (inl ((filter-has told C i).1 ((carry.just i).1 taken.0, not_from_false (is_ignored T ranges i) taken.1)))
    back (inr x) = (has-both (filter told C) (stretch m (length T.events - m)) i).1 (inr ((stretch-has m (length T.events - m) i).1 (x.0, omega (arith, x.0, x.1))))

-- one more number is pushed
pub stretch-pushed : (old now new : List ℕ) (q k : ℕ) → q ≤ k → now ≡ old ++ stretch q (k - q) → new ≡ now ++ (k + 1) ∷ [] → new ≡ old ++ stretch q (k + 1 - q)
stretch-pushed old now new q k from so_far pushed =
    let long : k + 1 - q ≡ suc (k - q) = omega (arith, from) in
    let last : k + 1 ≡ suc (q + (k - q)) = omega (arith, from) in
    pushed ∙ ap (λ xs. xs ++ (k + 1) ∷ []) so_far ∙ append_assoc old (stretch q (k - q)) ((k + 1) ∷ [])
    ∙ ap (λ xs. old ++ xs) (ap (λ n. stretch q (k - q) ++ n ∷ []) last ∙ sym (stretch-more q (k - q)) ∙ ap (stretch q) (sym long))
