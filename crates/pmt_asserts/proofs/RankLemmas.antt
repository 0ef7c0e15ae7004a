-- Last stores to bytes, by their ranks: what a search finds, and what a walk over the bytes adds up.
use Rattle.std.proofs.Common.{◌≡◌, ℕ, zero, suc, ◌+◌, ◌-◌, ◌<◌, ◌≤◌, ◌⊎◌, inl, inr, Bool, true, false, List, [], ◌∷◌, length, get_or, Option, Some, None, refl, sym, ap, subst, ◌∙◌, arith}
use Rattle.std.specs.Prelude.{if◌then◌else◌, ◌==◌, nat_le, nat_lt, min}
use Rattle.std.specs.List.Sorted.{IsPartitionPoint}
use Rattle.std.proofs.lemmas.Bool.{cases_lt, cases_eq, both_ways, ne_eqb, leb-true, ltb-true, le-leb, lt-ltb, and_parts, and_from}
use Rattle.std.proofs.lemmas.List.Elements.{Contains-get_or}
use Rattle.pmt_asserts.specs.declared.put.Put.{Put}
use Rattle.pmt_asserts.specs.declared.put.Write.{Write}
use Rattle.pmt_asserts.specs.Puts.{covers, no_put, put_at, last_in, IsLeastIn, IsLeastOf, key_of, AreWritesOf, IsLesser}

-- what a store covers
pub covers-range : (p : Put) (b : ℕ) → p.addr ≤ b → b < p.addr + p.len → covers p b ≡ true
covers-range p b low high = and_from (nat_le p.addr b) (nat_lt (b - p.addr) p.len) (le-leb p.addr b low) (lt-ltb (b - p.addr) p.len (omega (arith, low, high)))

pub range-covers : (p : Put) (b : ℕ) → covers p b ≡ true → (p.addr ≤ b) × (b < p.addr + p.len)
range-covers p b h =
    let both = and_parts (nat_le p.addr b) (nat_lt (b - p.addr) p.len) h in
    let low = leb-true p.addr b both.0 in
    let high = ltb-true (b - p.addr) p.len both.1 in
    (low, omega (arith, low, high))

-- a rank is at most the number of stores
pub last_in-le : (puts : List Put) (b c : ℕ) → last_in puts b c ≤ c
unfolding last_in
last_in-le puts b zero = omega arith
last_in-le puts b (suc c) = elim (covers (put_at puts c) b) as (λ t. (if t then suc c else last_in puts b c) ≤ suc c) [ true ↦ omega arith | false ↦ omega (arith, last_in-le puts b c) ]

-- a store that writes the byte is no later than the last one
pub last_in-above : (puts : List Put) (b c k : ℕ) → k < c → covers (put_at puts k) b ≡ true → k < last_in puts b c
unfolding last_in
last_in-above puts b zero k h hit = absurd (omega arith)
last_in-above puts b (suc c) k h hit = go (covers (put_at puts c) b) refl (λ below. last_in-above puts b c k below hit)
  where
    go : (t : Bool) → covers (put_at puts c) b ≡ t → (k < c → k < last_in puts b c) → k < (if t then suc c else last_in puts b c)
    go true e earlier = h
    go false e earlier =
        elim (cases_eq k c) [
          | inl same ↦ absurd (both_ways (covers (put_at puts c) b) e (subst (λ j. covers (put_at puts j) b ≡ true) same hit))
          | inr other ↦ earlier (omega arith)
        ]

-- the last store writes the byte
pub last_in-covers : (puts : List Put) (b c r : ℕ) → last_in puts b c ≡ suc r → (r < c) × (covers (put_at puts r) b ≡ true)
unfolding last_in
last_in-covers puts b zero r e = absurd (omega (arith, e))
last_in-covers puts b (suc c) r e = go (covers (put_at puts c) b) refl e (λ same. last_in-covers puts b c r same)
  where
    go : (t : Bool) → covers (put_at puts c) b ≡ t → (if t then suc c else last_in puts b c) ≡ suc r → (last_in puts b c ≡ suc r → (r < c) × (covers (put_at puts r) b ≡ true)) → (r < suc c) × (covers (put_at puts r) b ≡ true)
    go true hit same earlier = let k : r ≡ c = omega (arith, same) in (omega arith, rw k hit)
    go false free same earlier = let below = earlier same in (omega (arith, below.0), below.1)

-- the last one of those up to a byte and a count of stores
abbrev pub Ends : List Write → ℕ → ℕ → ℕ → Type 0
Ends writes b c end = IsPartitionPoint (λ w. nat_le (key_of w) (key_of (record { byte = b; rank = c })) ≡ true) (λ w. nat_le (key_of w) (key_of (record { byte = b; rank = c })) ≡ false) writes end

-- the last store to the byte stands before the end of those that pass
last-before :
    (puts : List Put) (writes : List Write) (b c end k : ℕ) → AreWritesOf puts writes → c ≤ length puts → Ends writes b c end → last_in puts b c ≡ suc k →
    (i : ℕ) × (i < end) × (i < length writes) × ((d : Write) → get_or writes i d ≡ record { byte = b; rank = suc k })
last-before puts writes b c end k are within point e =
    let there = last_in-covers puts b c k e in
    let w : Write = record { byte = b; rank = suc k } in
    let back : suc k - 1 ≡ k = omega arith in
    let member = are.all w (record { some = omega arith; within = omega (arith, there.0); writes = rw back there.1 }) in
    (member.0, before member.0 member.1 member.2 (cases_lt member.0 end), member.1, λ d. get_or-any writes member.0 d w member.1 ∙ member.2)
  where
    get_or-any : (xs : List Write) (j : ℕ) (d e : Write) → j < length xs → get_or xs j d ≡ get_or xs j e
    get_or-any [] j d e h = absurd (omega arith)
    get_or-any (x ∷ xs) zero d e h = refl
    get_or-any (x ∷ xs) (suc j) d e h = get_or-any xs j d e (omega arith)

    before : (j : ℕ) → j < length writes → get_or writes j (record { byte = b; rank = suc k }) ≡ record { byte = b; rank = suc k } → (j < end) ⊎ (end ≤ j) → j < end
    before j inside is (inl fine) = fine
    before j inside is (inr past) =
        let w : Write = record { byte = b; rank = suc k } in
        let there = last_in-covers puts b c k e in
        let fails : nat_le (key_of w) (key_of (record { byte = b; rank = c })) ≡ false = subst (λ v. nat_le (key_of v) (key_of (record { byte = b; rank = c })) ≡ false) is (point.1 j w past inside) in
        absurd (both_ways (nat_le (key_of w) (key_of (record { byte = b; rank = c }))) fails (le-leb (key_of w) (key_of (record { byte = b; rank = c })) (omega (arith, there.0))))

-- where none pass, no store writes the byte
pub found-none : (puts : List Put) (writes : List Write) (b c : ℕ) → AreWritesOf puts writes → c ≤ length puts → Ends writes b c 0 → last_in puts b c ≡ 0
found-none puts writes b c are within point = go (last_in puts b c) refl
  where
    go : (v : ℕ) → last_in puts b c ≡ v → last_in puts b c ≡ 0
    go zero e = e
    go (suc k) e = let i = last-before puts writes b c 0 k are within point e in absurd (omega (arith, i.1))

-- where the last one that passes is of another byte, no store writes the byte
pub found-other : (puts : List Put) (writes : List Write) (b c end : ℕ) (d : Write) → AreWritesOf puts writes → c ≤ length puts → Ends writes b c end → end ≤ length writes → ((get_or writes (end - 1) d).byte ≡ b → ⊥) → last_in puts b c ≡ 0
found-other puts writes b c end d are within point inside other = go (last_in puts b c) refl
  where
    go : (v : ℕ) → last_in puts b c ≡ v → last_in puts b c ≡ 0
    go zero e = e
    go (suc k) e =
        let i = last-before puts writes b c end k are within point e in
        let last = get_or writes (end - 1) d in
        let up : key_of (record { byte = b; rank = suc k }) ≤ key_of last = subst (λ v. key_of v ≤ key_of last) (i.3 d) (are.sorted i.0 (end - 1) d (omega (arith, i.1)) (omega (arith, i.1, inside))) in
        let down = leb-true (key_of last) (key_of (record { byte = b; rank = c })) (point.0 (end - 1) d (omega arith) (omega (arith, i.1))) in
        let is = are.just last (Contains-get_or writes (end - 1) d (omega (arith, i.1, inside))) in
        absurd (other (omega (arith, up, down, is.within, are.few, within)))

-- else it is the last store to the byte
pub found-last : (puts : List Put) (writes : List Write) (b c end : ℕ) (d : Write) → AreWritesOf puts writes → c ≤ length puts → Ends writes b c end → end ≤ length writes → 0 < end → (get_or writes (end - 1) d).byte ≡ b → last_in puts b c ≡ (get_or writes (end - 1) d).rank
found-last puts writes b c end d are within point inside some same = omega (arith, at_least, at_most (last_in puts b c) refl)
  where
    last : Write
    last = get_or writes (end - 1) d

    at_least : last.rank ≤ last_in puts b c
    at_least =
        let is = are.just last (Contains-get_or writes (end - 1) d (omega (arith, some, inside))) in
        let down = leb-true (key_of last) (key_of (record { byte = b; rank = c })) (point.0 (end - 1) d (omega arith) (omega (arith, some))) in
        let by : last.rank ≤ c = omega (arith, down, same) in
        omega (arith, is.some, last_in-above puts b c (last.rank - 1) (omega (arith, by, is.some)) (subst (λ x. covers (put_at puts (last.rank - 1)) x ≡ true) same is.writes))

    at_most : (v : ℕ) → last_in puts b c ≡ v → last_in puts b c ≤ last.rank
    at_most zero e = omega (arith, e)
    at_most (suc k) e =
        let i = last-before puts writes b c end k are within point e in
        let up : key_of (record { byte = b; rank = suc k }) ≤ key_of last = subst (λ v. key_of v ≤ key_of last) (i.3 d) (are.sorted i.0 (end - 1) d (omega (arith, i.1)) (omega (arith, i.1, inside))) in
        omega (arith, e, up, same)

-- one more byte
pub least-more : (puts : List Put) (c low b : ℕ) (old new : Option ℕ) → low ≤ b → IsLeastOf puts c low b old → IsLesser old (last_in puts b c) new → IsLeastOf puts c low (b + 1) new
least-more puts c low b None new h is lesser = subst (IsLeastOf puts c low (b + 1)) (sym lesser) (go (last_in puts b c) refl)
  where
    go : (v : ℕ) → last_in puts b c ≡ v → IsLeastOf puts c low (b + 1) (if v == 0 then None else Some v)
    go zero e = λ a above below. elim (cases_eq a b) [ inl same ↦ rw same e | inr other ↦ is a above (omega arith) ]
    go (suc k) e = let f : (suc k == 0) ≡ false = ne_eqb (suc k) 0 (λ never. absurd (omega (arith, never))) in subst (λ t. IsLeastOf puts c low (b + 1) (if t then None else Some (suc k))) (sym f) (record {
      some = omega arith;
      bound = λ a above below. elim (cases_eq a b) [ inl same ↦ inr (let f = ap (λ x. last_in puts x c) same in omega (arith, e, f)) | inr other ↦ inl (is a above (omega arith)) ];
      reached = (b, h, omega arith, e);
    })
least-more puts c low b (Some m) new h is lesser = subst (IsLeastOf puts c low (b + 1)) (sym lesser) (go (last_in puts b c) refl)
  where
    go : (v : ℕ) → last_in puts b c ≡ v → IsLeastOf puts c low (b + 1) (if v == 0 then Some m else Some (min m v))
    go zero e = record {
      some = is.some;
      bound = λ a above below. elim (cases_eq a b) [ inl same ↦ inl (rw same e) | inr other ↦ is.bound a above (omega arith) ];
      reached = let r = is.reached in (r.0, r.1, omega (arith, r.2), r.3);
    }
    go (suc k) e = let f : (suc k == 0) ≡ false = ne_eqb (suc k) 0 (λ never. absurd (omega (arith, never))) in subst (λ t. IsLeastOf puts c low (b + 1) (if t then Some m else Some (min m (suc k)))) (sym f) (record {
      some = omega (arith, is.some);
      bound = λ a above below. elim (cases_eq a b) [
        | inl same ↦ inr (let f = ap (λ x. last_in puts x c) same in omega (arith, e, f))
        | inr other ↦ elim (is.bound a above (omega arith)) [ inl none ↦ inl none | inr some ↦ inr (omega (arith, some)) ]
      ];
      reached = elim (cases_lt m (suc k)) [ inl less ↦ let r = is.reached in (r.0, r.1, omega (arith, r.2), omega (arith, r.3)) | inr more ↦ (b, h, omega arith, omega (arith, e)) ];
    })

-- the least of no bytes
pub least-none : (puts : List Put) (c low : ℕ) → IsLeastOf puts c low low None
least-none puts c low = λ b above below. absurd (omega arith)

-- at the end of the bytes
pub least-end : (puts : List Put) (c low b high : ℕ) (o : Option ℕ) → high ≤ b → (low ≤ high → b ≤ high) → (high ≤ low → o ≡ None) → IsLeastOf puts c low b o → IsLeastOf puts c low high o
least-end puts c low b high None past fits none is = λ a above below. is a above (omega arith)
least-end puts c low b high (Some m) past fits none is = record {
  some = is.some;
  bound = λ a above below. is.bound a above (omega arith);
  reached = go (cases_lt high (suc low));
}
  where
    go : (high < suc low) ⊎ (suc low ≤ high) → (a : ℕ) × (low ≤ a) × (a < high) × (last_in puts a c ≡ m)
    go (inl empty) = let never : Some m ≡ None = none (omega arith) in cc
    go (inr some) = let up = fits (omega arith) in let r = is.reached in (r.0, r.1, omega (arith, up, r.2), r.3)

-- an element that was read, at any default
pub put-read : (puts P : List Put) (k : ℕ) (x : Put) → puts ≡ P → k < length P → x ≡ get_or puts k x → x ≡ put_at P k
put-read puts P k x same h e = e ∙ ap (λ ps. get_or ps k x) same ∙ any P k x no_put h
  where
    any : (xs : List Put) (j : ℕ) (d e' : Put) → j < length xs → get_or xs j d ≡ get_or xs j e'
    any [] j d e' m = absurd (omega arith)
    any (y ∷ xs) zero d e' m = refl
    any (y ∷ xs) (suc j) d e' m = any xs j d e' (omega arith)

-- the least rank is that of a store
pub least-within : (puts : List Put) (c low high m : ℕ) → IsLeastIn puts c low high m → m ≤ c
least-within puts c low high m is = let r = is.reached in omega (arith, r.3, last_in-le puts r.0 c)
