-- Counts of stores and the numbers of the stores that they count.
use Rattle.std.proofs.Common.{◌≡◌, ℕ, zero, suc, ◌≤◌, max, ◌⊎◌, inl, inr, Bool, true, false, ◌==◌, ◌&&◌, List, ◌∷◌, length, refl, sym, ap, subst, ◌∙◌, eqb-true, arith}
use Rattle.std.specs.Prelude.{if◌then◌else◌}
use Rattle.std.proofs.lemmas.Bool.{cases_lt}
use Rattle.std.proofs.lemmas.Bool.Decides.{nat_tests}
use Rattle.pmt_laws.specs.Prelude.{Written, Act, Stores, Flushes, Clflushes, Fences, Asserts, count, Recording, IsAct, history, count_at, mark, front, front_at}
use Rattle.pmt_laws.proofs.Histories.{act-within, history-act, history-step, length-history, count-mono}
use Rattle.pmt_laws.proofs.BoxLemmas.{count-store}
use Rattle.pmt_safety.specs.Safety.{last_line_store, marked_store, safe_store, last_line_store_at, marked_store_at, safe_store_at}

-- before an event there are as many acts
pub length-before : (T : Recording) (n : ℕ) (a : Act) → IsAct T (suc n) a → length (history T n) ≡ n
length-before T n a is = let within = act-within T (suc n) a is in length-history T n (omega (arith, within.1))

-- a store adds one to the count of its line
pub count-at_store : (T : Recording) (l n : ℕ) (w : Written) → IsAct T (suc n) (Stores l w) → count_at T l (suc n) ≡ suc (count_at T l n)
count-at_store T l n w is = ap (count l) (history-act T n (Stores l w) is) ∙ count-store l l w (history T n) refl

-- a store that is counted by a place comes by then
pub store-by : (T : Recording) (l j f : ℕ) (w : Written) → IsAct T j (Stores l w) → count_at T l j ≤ count_at T l f → j ≤ f
store-by T l zero f w is counted = omega arith
store-by T l (suc i) f w is counted = elim (cases_lt f (suc i)) [
  | inl early ↦ absurd (omega (arith, counted, count-at_store T l i w is, count-mono T l f i (omega arith)))
  | inr by_now ↦ by_now
]

-- the last store to a line counts as many as have come
pub count-last : (T : Recording) (l n : ℕ) → count_at T l (last_line_store_at T l n) ≡ count_at T l n
count-last T l zero = refl
count-last T l (suc n) = elim (history-step T n) [
  | inl x ↦ subst (λ h. count_at T l (last_line_store l h) ≡ count l h) (sym (history-act T n x.0 x.1)) (go x.0 x.1 (count-last T l n))
  | inr x ↦ subst (λ h. count_at T l (last_line_store l h) ≡ count l h) (sym x.1) (count-last T l n)
]
  where
    go : (a : Act) → IsAct T (suc n) a → count_at T l (last_line_store_at T l n) ≡ count_at T l n → count_at T l (last_line_store l (a ∷ history T n)) ≡ count l (a ∷ history T n)
    go (Stores k w) is old = at (k == l) refl
      where
        at : (b : Bool) → (k == l) ≡ b → count_at T l (if b then suc (length (history T n)) else last_line_store_at T l n) ≡ (if b then suc (count_at T l n) else count_at T l n)
        at true e =
            let own : IsAct T (suc n) (Stores l w) = subst (λ j. IsAct T (suc n) (Stores j w)) (eqb-true k l e) is in
            let P : ℕ → Type 0 = λ m. count_at T l (suc m) ≡ suc (count_at T l n) in
            subst P (sym (length-before T n (Stores k w) is)) (count-at_store T l n w own)
        at false e = old
    go (Flushes t k) is old = old
    go (Clflushes k) is old = old
    go (Fences t) is old = old
    go Asserts is old = old

-- so does the last one that a thread's flush marks
pub count-marked : (T : Recording) (t l n : ℕ) → count_at T l (marked_store_at T t l n) ≡ mark t l (history T n)
count-marked T t l zero = refl
count-marked T t l (suc n) = elim (history-step T n) [
  | inl x ↦ subst (λ h. count_at T l (marked_store t l h) ≡ mark t l h) (sym (history-act T n x.0 x.1)) (go x.0 (count-marked T t l n))
  | inr x ↦ subst (λ h. count_at T l (marked_store t l h) ≡ mark t l h) (sym x.1) (count-marked T t l n)
]
  where
    go : (a : Act) → count_at T l (marked_store_at T t l n) ≡ mark t l (history T n) → count_at T l (marked_store t l (a ∷ history T n)) ≡ mark t l (a ∷ history T n)
    go (Stores k w) old = old
    go (Flushes u k) old = at ((u == t) && (k == l))
      where
        at : (b : Bool) → count_at T l (if b then last_line_store_at T l n else marked_store_at T t l n) ≡ (if b then count_at T l n else mark t l (history T n))
        at true = count-last T l n
        at false = old
    go (Clflushes k) old = old
    go (Fences u) old = old
    go Asserts old = old

-- the later of two places counts the most
count-max : (T : Recording) (l m n : ℕ) → count_at T l (max m n) ≡ max (count_at T l m) (count_at T l n)
count-max T l m n = grind (arith, nat_tests, cases_lt, count-mono)

-- and the last safe store counts as many as the front
pub count-safe : (T : Recording) (l n : ℕ) → count_at T l (safe_store_at T l n) ≡ front_at T l n
count-safe T l zero = refl
count-safe T l (suc n) = elim (history-step T n) [
  | inl x ↦ subst (λ h. count_at T l (safe_store l h) ≡ front l h) (sym (history-act T n x.0 x.1)) (go x.0 (count-safe T l n))
  | inr x ↦ subst (λ h. count_at T l (safe_store l h) ≡ front l h) (sym x.1) (count-safe T l n)
]
  where
    go : (a : Act) → count_at T l (safe_store_at T l n) ≡ front_at T l n → count_at T l (safe_store l (a ∷ history T n)) ≡ front l (a ∷ history T n)
    go (Stores k w) old = old
    go (Flushes u k) old = old
    go (Clflushes k) old = at (k == l)
      where
        at : (b : Bool) → count_at T l (if b then last_line_store_at T l n else safe_store_at T l n) ≡ (if b then count_at T l n else front_at T l n)
        at true = count-last T l n
        at false = old
    go (Fences t) old = count-max T l (safe_store_at T l n) (marked_store_at T t l n) ∙ ap (λ f. max f (count_at T l (marked_store_at T t l n))) old ∙ ap (max (front_at T l n)) (count-marked T t l n)
    go Asserts old = old

-- a store to the line that has come by place n, or 0
abbrev pub IsLineStore : Recording → ℕ → ℕ → ℕ → Type 0
IsLineStore T l n j = (j ≡ 0) ⊎ ((w : Written) × IsAct T j (Stores l w) × (j ≤ n))

store-later : (T : Recording) (l n j : ℕ) → IsLineStore T l n j → IsLineStore T l (suc n) j
store-later T l n j (inl none) = inl none
store-later T l n j (inr x) = inr (x.0, x.1, omega (arith, x.2))

-- what is read off histories is such a store where each act leaves it one
stays-store : (T : Recording) (l : ℕ) (f : List Act → ℕ) → f (history T 0) ≡ 0 →
    ((n : ℕ) (a : Act) → IsAct T (suc n) a → IsLineStore T l n (f (history T n)) → IsLineStore T l (suc n) (f (a ∷ history T n))) → (n : ℕ) → IsLineStore T l n (f (history T n))
stays-store T l f none each zero = inl none
stays-store T l f none each (suc n) = elim (history-step T n) [
  | inl x ↦ subst (λ h. IsLineStore T l (suc n) (f h)) (sym (history-act T n x.0 x.1)) (each n x.0 x.1 (stays-store T l f none each n))
  | inr x ↦ subst (λ h. IsLineStore T l (suc n) (f h)) (sym x.1) (store-later T l n (f (history T n)) (stays-store T l f none each n))
]

-- the last store to a line is one
pub last-is_store : (T : Recording) (l n : ℕ) → IsLineStore T l n (last_line_store_at T l n)
last-is_store T l n = stays-store T l (last_line_store l) refl go n
  where
    go : (n : ℕ) (a : Act) → IsAct T (suc n) a → IsLineStore T l n (last_line_store_at T l n) → IsLineStore T l (suc n) (last_line_store l (a ∷ history T n))
    go n (Stores k w) is old = at (k == l) refl
      where
        at : (b : Bool) → (k == l) ≡ b → IsLineStore T l (suc n) (if b then suc (length (history T n)) else last_line_store_at T l n)
        at true e =
            let P : ℕ → Type 0 = λ m. IsLineStore T l (suc n) (suc m) in
            subst P (sym (length-before T n (Stores k w) is)) (inr (w, subst (λ j. IsAct T (suc n) (Stores j w)) (eqb-true k l e) is, omega arith))
        at false e = store-later T l n (last_line_store_at T l n) old
    go n (Flushes t k) is old = store-later T l n (last_line_store_at T l n) old
    go n (Clflushes k) is old = store-later T l n (last_line_store_at T l n) old
    go n (Fences t) is old = store-later T l n (last_line_store_at T l n) old
    go n Asserts is old = store-later T l n (last_line_store_at T l n) old

-- no store to the line comes after it
pub last-greatest : (T : Recording) (l n j : ℕ) (w : Written) → IsAct T j (Stores l w) → j ≤ n → j ≤ last_line_store_at T l n
last-greatest T l n j w is by_now = store-by T l j (last_line_store_at T l n) w is (omega (arith, count-last T l n, count-mono T l j n by_now))

-- what a thread's flush marks is one
pub marked-is_store : (T : Recording) (t l n : ℕ) → IsLineStore T l n (marked_store_at T t l n)
marked-is_store T t l n = stays-store T l (marked_store t l) refl go n
  where
    go : (n : ℕ) (a : Act) → IsAct T (suc n) a → IsLineStore T l n (marked_store_at T t l n) → IsLineStore T l (suc n) (marked_store t l (a ∷ history T n))
    go n (Stores k w) is old = store-later T l n (marked_store_at T t l n) old
    go n (Flushes u k) is old = at ((u == t) && (k == l))
      where
        at : (b : Bool) → IsLineStore T l (suc n) (if b then last_line_store_at T l n else marked_store_at T t l n)
        at true = store-later T l n (last_line_store_at T l n) (last-is_store T l n)
        at false = store-later T l n (marked_store_at T t l n) old
    go n (Clflushes k) is old = store-later T l n (marked_store_at T t l n) old
    go n (Fences u) is old = store-later T l n (marked_store_at T t l n) old
    go n Asserts is old = store-later T l n (marked_store_at T t l n) old

-- and the last safe store
pub safe-is_store : (T : Recording) (l n : ℕ) → IsLineStore T l n (safe_store_at T l n)
safe-is_store T l n = stays-store T l (safe_store l) refl go n
  where
    go : (n : ℕ) (a : Act) → IsAct T (suc n) a → IsLineStore T l n (safe_store_at T l n) → IsLineStore T l (suc n) (safe_store l (a ∷ history T n))
    go n (Stores k w) is old = store-later T l n (safe_store_at T l n) old
    go n (Flushes u k) is old = store-later T l n (safe_store_at T l n) old
    go n (Clflushes k) is old = at (k == l)
      where
        at : (b : Bool) → IsLineStore T l (suc n) (if b then last_line_store_at T l n else safe_store_at T l n)
        at true = store-later T l n (last_line_store_at T l n) (last-is_store T l n)
        at false = store-later T l n (safe_store_at T l n) old
    go n (Fences t) is old = elim (cases_lt (safe_store_at T l n) (marked_store_at T t l n)) [
      | inl less ↦ let e : max (safe_store_at T l n) (marked_store_at T t l n) ≡ marked_store_at T t l n = omega arith in rw e (store-later T l n (marked_store_at T t l n) (marked-is_store T t l n))
      | inr more ↦ let e : max (safe_store_at T l n) (marked_store_at T t l n) ≡ safe_store_at T l n = omega arith in rw e (store-later T l n (safe_store_at T l n) old)
    ]
    go n Asserts is old = store-later T l n (safe_store_at T l n) old

-- a store to a line or none is among the stores that are counted by place n only if it comes by the last one
pub line_store-by : (T : Recording) (l n j f : ℕ) → IsLineStore T l n j → count_at T l j ≤ count_at T l f → j ≤ f
line_store-by T l n j f (inl none) counted = omega arith
line_store-by T l n j f (inr x) counted = store-by T l j f x.0 x.1 counted

-- the last safe store is no later than the last store
pub safe-le_last : (T : Recording) (l n : ℕ) → safe_store_at T l n ≤ last_line_store_at T l n
safe-le_last T l n = go (safe-is_store T l n)
  where
    go : IsLineStore T l n (safe_store_at T l n) → safe_store_at T l n ≤ last_line_store_at T l n
    go (inl none) = omega arith
    go (inr x) = last-greatest T l n (safe_store_at T l n) x.0 x.1 x.2
