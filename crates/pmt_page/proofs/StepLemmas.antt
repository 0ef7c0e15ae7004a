-- Columns of numbers can be read back.
use Rattle.pmt_page.proofs.Prelude.{◌≡◌, ℕ, ◌-◌, ◌<◌, ◌≤◌, ◌⊎◌, inl, inr, Bool, true, false, nat_lt, if◌then◌else◌, List, [], ◌∷◌, ◌++◌, map, refl, sym, ap, ap₂, ◌∙◌, arith, append_assoc, digits_of, AllBelowBase, cases_lt, cond-true, cond-false, nat_tests, all_below_base_digits_of, same_from_digits_of, digit, short, step, steps}
use Rattle.pmt_page.proofs.SplittingLemmas.{Lacks, lacks-append, split}

-- ---- One number

pub digit-lacks : (d : ℕ) → (¬ (digit d ≡ 34)) × (¬ (digit d ≡ 44)) × (¬ (digit d ≡ 45))
digit-lacks d = (λ e. grind (arith, nat_tests), λ e. grind (arith, nat_tests), λ e. grind (arith, nat_tests))

digit-same : (d e : ℕ) → d < 64 → e < 64 → digit d ≡ digit e → d ≡ e
digit-same d e one two same = grind (arith, nat_tests)

digits-same : (ds es : List ℕ) → AllBelowBase 64 ds → AllBelowBase 64 es → map digit ds ≡ map digit es → ds ≡ es
digits-same [] [] one two same = refl
digits-same [] (e ∷ es) one two same = absurd (let x : ⊥ = cc in x)
digits-same (d ∷ ds) [] one two same = absurd (let x : ⊥ = cc in x)
digits-same (d ∷ ds) (e ∷ es) one two same =
    let first : digit d ≡ digit e = cc in
    let others : map digit ds ≡ map digit es = cc in
    ap₂ (λ (z : ℕ) (zs : List ℕ). z ∷ zs) (digit-same d e one.0 two.0 first) (digits-same ds es one.1 two.1 others)

short-same : (m n : ℕ) → short m ≡ short n → m ≡ n
short-same m n same =
    same_from_digits_of 64 m n (omega arith)
    (digits-same (digits_of 64 m) (digits_of 64 n) (all_below_base_digits_of 64 m (omega arith)) (all_below_base_digits_of 64 n (omega arith)) same)

digits-lack : (c : ℕ) → ((d : ℕ) → ¬ (digit d ≡ c)) → (ds : List ℕ) → Lacks c (map digit ds)
digits-lack c each [] = tt
digits-lack c each (d ∷ ds) = (each d, digits-lack c each ds)

-- no number begins with a -
no-sign : (ds xs : List ℕ) → ¬ (45 ∷ xs ≡ map digit ds)
no-sign [] xs e = let x : ⊥ = cc in x
no-sign (d ∷ ds) xs e = let same : digit d ≡ 45 = cc in (digit-lacks d).2 same

-- ---- One step

step-lacks : (c b n : ℕ) → ((d : ℕ) → ¬ (digit d ≡ c)) → ¬ (45 ≡ c) → Lacks c (step b n)
step-lacks c b n each sign = go (nat_lt n b) refl
  where
    go : (t : Bool) → nat_lt n b ≡ t → Lacks c (if t then 45 ∷ short (b - n) else short (n - b))
    go true e = (sign, digits-lack c each (digits_of 64 (b - n)))
    go false e = digits-lack c each (digits_of 64 (n - b))

step-back : (b n : ℕ) → n < b → step b n ≡ 45 ∷ short (b - n)
step-back b n less = cond-true (nat_lt n b) (45 ∷ short (b - n)) (short (n - b)) (grind (arith, nat_tests))

step-on : (b n : ℕ) → b ≤ n → step b n ≡ short (n - b)
step-on b n less = cond-false (nat_lt n b) (45 ∷ short (b - n)) (short (n - b)) (grind (arith, nat_tests))

step-same : (b m n : ℕ) → step b m ≡ step b n → m ≡ n
step-same b m n same = go (cases_lt m b) (cases_lt n b)
  where
    go : (m < b) ⊎ (b ≤ m) → (n < b) ⊎ (b ≤ n) → m ≡ n
    go (inl one) (inl two) =
        let both : 45 ∷ short (b - m) ≡ 45 ∷ short (b - n) = sym (step-back b m one) ∙ same ∙ step-back b n two in
        let tails : short (b - m) ≡ short (b - n) = cc in
        let e : b - m ≡ b - n = short-same (b - m) (b - n) tails in
        omega (arith, e, one, two)
    go (inr one) (inr two) =
        let e : m - b ≡ n - b = short-same (m - b) (n - b) (sym (step-on b m one) ∙ same ∙ step-on b n two) in
        omega (arith, e, one, two)
    go (inl one) (inr two) = absurd (no-sign (digits_of 64 (n - b)) (short (b - m)) (sym (step-back b m one) ∙ same ∙ step-on b n two))
    go (inr one) (inl two) = absurd (no-sign (digits_of 64 (m - b)) (short (b - n)) (sym (step-back b n two) ∙ sym same ∙ step-on b m one))

-- ---- All of them

pub steps-lack : (b : ℕ) (ns : List ℕ) → Lacks 34 (steps b ns)
steps-lack b [] = tt
steps-lack b (n ∷ ns) =
    lacks-append 34 (step b n ++ 44 ∷ []) (steps n ns)
    (lacks-append 34 (step b n) (44 ∷ []) (step-lacks 34 b n (λ d. (digit-lacks d).0) (λ e. omega arith)) (λ e. omega arith, tt))
    (steps-lack n ns)

steps-more : (b n : ℕ) (ns : List ℕ) → steps b (n ∷ ns) ≡ step b n ++ (44 ∷ steps n ns)
steps-more b n ns = append_assoc (step b n) (44 ∷ []) (steps n ns)

some-more : (xs ys : List ℕ) (c : ℕ) → ¬ ([] ≡ xs ++ (c ∷ ys))
some-more [] ys c e = let x : ⊥ = cc in x
some-more (x ∷ xs) ys c e = let y : ⊥ = cc in y

pub steps-same : (b : ℕ) (ms ns : List ℕ) → steps b ms ≡ steps b ns → ms ≡ ns
steps-same b [] [] same = refl
steps-same b [] (n ∷ ns) same = absurd (some-more (step b n) (steps n ns) 44 (same ∙ steps-more b n ns))
steps-same b (m ∷ ms) [] same = absurd (some-more (step b m) (steps m ms) 44 (sym same ∙ steps-more b m ms))
steps-same b (m ∷ ms) (n ∷ ns) same =
    let lacks : (k : ℕ) → Lacks 44 (step b k) = λ k. step-lacks 44 b k (λ d. (digit-lacks d).1) (λ e. omega arith) in
    let parts = split 44 (step b m) (step b n) (steps m ms) (steps n ns) (lacks m) (lacks n) (sym (steps-more b m ms) ∙ same ∙ steps-more b n ns) in
    let first : m ≡ n = step-same b m n parts.0 in
    let others : steps m ms ≡ steps m ns = parts.1 ∙ ap (λ (k : ℕ). steps k ns) (sym first) in
    ap₂ (λ (z : ℕ) (zs : List ℕ). z ∷ zs) first (steps-same m ms ns others)
