-- How many numbers pass a test.
use Rattle.std.proofs.Common.{◌≡◌, ℕ, zero, suc, ◌+◌, ◌-◌, ◌<◌, ◌≤◌, ◌⊎◌, inl, inr, Bool, true, false, List, length, take, min, get_or, refl, sym, ap, subst, ◌∙◌, arith}
use Rattle.std.specs.Prelude.{if◌then◌else◌, ◌&&◌, nat_le, nat_lt}
use Rattle.pmt_laws.specs.Prelude.{count_by, IsNonDecreasingBy, IsPartitionPoint}
use Rattle.std.proofs.lemmas.Bool.{cases_lt, le-leb, lt-leb, lt-ltb, le-ltb}
use Rattle.std.proofs.lemmas.List.{get_or_default, take_all}
use Rattle.std.proofs.lemmas.List.Sums.{count_by_more_yes, count_by_more_no}
use Rattle.pmt_causes.specs.Late.{counted}

-- none but those that are counted
abbrev one : Bool → ℕ
one b = if b then 1 else 0

pub counted-mono : (f : ℕ → Bool) (m n : ℕ) → m ≤ n → counted f m ≤ counted f n
counted-mono f m zero le = let e : m ≡ zero = omega arith in subst (λ k. counted f k ≤ 0) (sym e) (omega arith)
counted-mono f m (suc n) le = go (cases_lt n m) (λ before. counted-mono f m n before)
  where
    go : (n < m) ⊎ (m ≤ n) → (m ≤ n → counted f m ≤ counted f n) → counted f m ≤ counted f (suc n)
    go (inl last) rest = let e : m ≡ suc n = omega arith in subst (λ k. counted f k ≤ counted f (suc n)) (sym e) (omega arith)
    go (inr before) rest = omega (arith, rest before)

-- tests that agree
pub counted-same : (f g : ℕ → Bool) (n : ℕ) → ((k : ℕ) → f k ≡ g k) → counted f n ≡ counted g n
counted-same f g zero same = refl
counted-same f g (suc n) same = omega (arith, counted-same f g n same, ap one (same (suc n)))

-- those past one number and below another
abbrev between : ℕ → ℕ → (ℕ → Bool) → ℕ → Bool
between i p f k = nat_lt i k && (nat_lt k p && f k)

pub counted-between : (f : ℕ → Bool) (i p n : ℕ) → counted (between i p f) n ≡ counted f (min (p - 1) n) - counted f (min i n)
counted-between f i p zero =
    let e : min (p - 1) zero ≡ zero = omega arith in
    let d : min i zero ≡ zero = omega arith in
    omega (arith, ap (counted f) e, ap (counted f) d)
counted-between f i p (suc n) = go (cases_lt i (suc n)) (cases_lt (suc n) p) (counted-between f i p n)
  where
    go : (i < suc n) ⊎ (suc n ≤ i) → (suc n < p) ⊎ (p ≤ suc n) → counted (between i p f) n ≡ counted f (min (p - 1) n) - counted f (min i n) →
        counted (between i p f) (suc n) ≡ counted f (min (p - 1) (suc n)) - counted f (min i (suc n))
    go (inr early) below rest =
        let value : between i p f (suc n) ≡ false = rw (le-ltb i (suc n) early) refl in
        let old : min i n ≡ n = omega arith in
        let new : min i (suc n) ≡ suc n = omega arith in
        omega (arith, ap one value, rest, ap (counted f) old, ap (counted f) new, counted-mono f (min (p - 1) n) n (omega arith), counted-mono f (min (p - 1) (suc n)) (suc n) (omega arith))
    go (inl past) (inl below) rest =
        let value : between i p f (suc n) ≡ f (suc n) = rw (lt-ltb i (suc n) past) (rw (lt-ltb (suc n) p below) refl) in
        let old : min (p - 1) n ≡ n = omega arith in
        let new : min (p - 1) (suc n) ≡ suc n = omega arith in
        let low : min i n ≡ min i (suc n) = omega arith in
        omega (arith, ap one value, rest, ap (counted f) old, ap (counted f) new, ap (counted f) low, counted-mono f (min i n) n (omega arith))
    go (inl past) (inr above) rest =
        let value : between i p f (suc n) ≡ false = rw (lt-ltb i (suc n) past) (rw (le-ltb (suc n) p above) refl) in
        let same : min (p - 1) n ≡ min (p - 1) (suc n) = omega arith in
        let low : min i n ≡ min i (suc n) = omega arith in
        omega (arith, ap one value, rest, ap (counted f) same, ap (counted f) low)

-- as many pass as come before the place from which on none does
pub count-partition : {X : Type 0} (p : X → Bool) (xs : List X) (i : ℕ) (d : X) → i ≤ length xs → IsPartitionPoint (λ y. p y ≡ true) (λ y. p y ≡ false) xs i → count_by p xs ≡ i
count-partition p xs i d within point = let all : take (length xs) xs ≡ xs = take_all (length xs) xs (omega arith) in ap (count_by p) (sym all) ∙ upto (length xs) (omega arith) ∙ omega arith
  where
    upto : (j : ℕ) → j ≤ length xs → count_by p (take j xs) ≡ min j i
    upto zero le = omega arith
    upto (suc j) le = go (cases_lt j i) (upto j (omega arith))
      where
        next : j + 1 ≡ suc j
        next = omega arith

        go : (j < i) ⊎ (i ≤ j) → count_by p (take j xs) ≡ min j i → count_by p (take (suc j) xs) ≡ min (suc j) i
        go (inl below) rest = omega (arith, ap (λ k. count_by p (take k xs)) next, count_by_more_yes p xs j d (omega arith) (point.0 j d (omega arith) below), rest)
        go (inr above) rest = omega (arith, ap (λ k. count_by p (take k xs)) next, count_by_more_no p xs j d (omega arith) (point.1 j d above (omega arith)), rest)

-- so many of these rising numbers come by the place, where the last of them does and the next one does not
pub counted-at : (list : List ℕ) (count place : ℕ) → IsNonDecreasingBy (λ k. k) list → count ≤ length list → (count < length list → place < get_or list count 0) →
    (0 < count → get_or list (count - 1) 0 ≤ place) → count ≡ count_by (λ k. nat_le k place) list
counted-at list count place order within next last = sym (count-partition (λ k. nat_le k place) list count 0 within (below, above))
  where
    below : (j d : ℕ) → 0 ≤ j → j < count → nat_le (get_or list j d) place ≡ true
    below j d from early =
        le-leb (get_or list j d) place (omega (arith, order j (count - 1) d (omega arith) (omega arith), get_or_default list (count - 1) d 0 (omega arith), last (omega arith)))

    above : (j d : ℕ) → count ≤ j → j < length list → nat_le (get_or list j d) place ≡ false
    above j d from inside =
        lt-leb (get_or list j d) place (omega (arith, order count j d from inside, get_or_default list count d 0 (omega arith), next (omega arith)))
