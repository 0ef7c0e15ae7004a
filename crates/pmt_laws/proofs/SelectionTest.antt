-- A test for the selections of a trace. It computes, so it settles a written-out selection.
use Rattle.std.proofs.Common.{◌≡◌, ℕ, zero, suc, ◌≤◌, ◌⊎◌, ◌==◌, ◌&&◌, ◌||◌, Bool, true, false, List, [], ◌∷◌, length, Option, Some, sym, ◌∙◌, ap, subst, inl, inr, arith}
use Rattle.std.specs.Prelude.{nat_lt, nat_le}
use Rattle.std.proofs.lemmas.Bool.{and_parts, or_cases, ltb-true, leb-true, eqb-true, cases_eq}
use Rattle.pmt_laws.specs.Prelude.{Act, Stores, Asserts, Recording, IsAct, IsRising, Has, always_stays, IsSelection}
use Rattle.pmt_laws.proofs.Histories.{act-within}
use Rattle.pmt_laws.proofs.KeptTest.{act_at, there-act}

-- The numbers rise from above low and end at most at high.
abbrev rises : ℕ → ℕ → List ℕ → Bool
rises low high [] = true
rises low high (k ∷ ks) = nat_lt low k && (nat_le k high && rises k high ks)

-- The number is one of the list.
abbrev has_number : List ℕ → ℕ → Bool
has_number [] n = false
has_number (k ∷ ks) n = (k == n) || has_number ks n

-- The act, if there is one, may go, or its number is one of the list.
abbrev may_go : List ℕ → ℕ → Option Act → Bool
may_go K n (Some (Stores l w)) = has_number K n
may_go K n (Some Asserts) = has_number K n
may_go K n a = true

-- Of the first n events those that always stay are of the list.
abbrev is_whole : Recording → List ℕ → ℕ → Bool
is_whole T K zero = true
is_whole T K (suc n) = may_go K (suc n) (act_at T (suc n)) && is_whole T K n

-- The numbers are a selection of the trace.
abbrev pub is_selection : Recording → List ℕ → Bool
is_selection T K = rises 0 (length T.events) K && is_whole T K (length T.events)

-- The numbers rise.
rises-rising : (low high : ℕ) (K : List ℕ) → rises low high K ≡ true → IsRising low K
rises-rising low high [] e = tt
rises-rising low high (k ∷ ks) e =
    let first = and_parts (nat_lt low k) (nat_le k high && rises k high ks) e in
    let rest = and_parts (nat_le k high) (rises k high ks) first.1 in
    (ltb-true low k first.0, rises-rising k high ks rest.1)

-- None of the numbers is past the end.
rises-within : (low high : ℕ) (K : List ℕ) (n : ℕ) → rises low high K ≡ true → Has K n → n ≤ high
rises-within low high [] n e h = absurd h
rises-within low high (k ∷ ks) n e h =
    let first = and_parts (nat_lt low k) (nat_le k high && rises k high ks) e in
    let rest = and_parts (nat_le k high) (rises k high ks) first.1 in
    go (leb-true k high rest.0) (rises-within k high ks n rest.1) h
  where
    go : k ≤ high → (Has ks n → n ≤ high) → Has (k ∷ ks) n → n ≤ high
    go le rest (inl same) = omega arith
    go le rest (inr more) = rest more

-- What the test finds is one of the list.
has_number-has : (K : List ℕ) (n : ℕ) → has_number K n ≡ true → Has K n
has_number-has [] n e = cc
has_number-has (k ∷ ks) n e = go (has_number-has ks n) (or_cases (k == n) (has_number ks n) e)
  where
    go : (has_number ks n ≡ true → Has ks n) → ((k == n) ≡ true) ⊎ (has_number ks n ≡ true) → Has (k ∷ ks) n
    go rest (inl same) = inl (eqb-true k n same)
    go rest (inr more) = inr (rest more)

-- An act that always stays is of the list, where the test passes.
may_go-has : (K : List ℕ) (n : ℕ) (a : Act) → may_go K n (Some a) ≡ true → always_stays a ≡ true → Has K n
may_go-has K n (Stores l w) e stays = has_number-has K n e
may_go-has K n Asserts e stays = has_number-has K n e
may_go-has K n a e stays = cc

-- The events that always stay are of the list.
is_whole-has : (T : Recording) (K : List ℕ) (n i : ℕ) (a : Act) → is_whole T K n ≡ true → i ≤ n → IsAct T i a → always_stays a ≡ true → Has K i
is_whole-has T K zero i a e within is stays =
    let some : 1 ≤ i = (act-within T i a is).0 in absurd (omega arith)
is_whole-has T K (suc n) i a e within is stays =
    let parts = and_parts (may_go K (suc n) (act_at T (suc n))) (is_whole T K n) e in
    go parts.0 (λ less. is_whole-has T K n i a parts.1 less is stays) (cases_eq i (suc n))
  where
    go : may_go K (suc n) (act_at T (suc n)) ≡ true → (i ≤ n → Has K i) → (i ≡ suc n) ⊎ (i ≡ suc n → ⊥) → Has K i
    go here rest (inl same) =
        let P : ℕ → Type 0 = λ j. may_go K j (act_at T j) ≡ true in
        may_go-has K i a (ap (may_go K i) (sym (there-act T i a is)) ∙ subst P (sym same) here) stays
    go here rest (inr apart) = rest (omega arith)

-- Numbers that pass the test are a selection.
pub selection-is_selection : (T : Recording) (K : List ℕ) → is_selection T K ≡ true → IsSelection T K
selection-is_selection T K e =
    let parts = and_parts (rises 0 (length T.events) K) (is_whole T K (length T.events)) e in
    record {
      rising = rises-rising 0 (length T.events) K parts.0;
      within = λ k h. rises-within 0 (length T.events) K k parts.0 h;
      whole = λ i a is stays. is_whole-has T K (length T.events) i a parts.1 ((act-within T i a is).1) is stays;
    }
