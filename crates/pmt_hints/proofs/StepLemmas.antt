-- What came last before a place, and what comes next after it, event by event.
use Rattle.std.proofs.Common.{◌≡◌, ◌≢◌, ℕ, suc, ◌<◌, ◌≤◌, ◌⊎◌, inl, inr, List, ◌∷◌, refl, sym, ap, subst, ◌∙◌, arith}
use Rattle.std.specs.Prelude.{if◌then◌else◌}
use Rattle.std.proofs.lemmas.Bool.{cases_lt, cases_eq, eq-eqb, ne_eqb}
use Rattle.pmt_laws.specs.Prelude.{Act, Stores, Flushes, Clflushes, Fences, Asserts, Recording, IsAct, Has}
use Rattle.pmt_laws.proofs.Histories.{act-unique}
use Rattle.pmt_explain.specs.Following.{IsFirst}
use Rattle.pmt_explain.proofs.FirstLemmas.{first-here, first-over, first-same}
use Rattle.pmt_hints.specs.Numbers.{fence_by, flush_by}

-- the last number up to n that has the property, or 0 where none has it
pub record IsLast (P : ℕ → Type 0) (n last : ℕ) : Type 0 where
  pub within : last ≤ n
  pub has : 0 < last → P last
  pub none_after : (k : ℕ) → last < k → k ≤ n → P k → ⊥

-- number i has the property, and is told in place of the old one; or it has not, and the old one stays
abbrev pub Decides : (ℕ → Type 0) → ℕ → ℕ → ℕ → Type 0
Decides P i old new = (P i × (new ≡ i)) ⊎ ((P i → ⊥) × (new ≡ old))

pub last-none : (P : ℕ → Type 0) → IsLast P 0 0
last-none P = record { within = omega arith; has = λ some. absurd (omega arith); none_after = λ k above upto p. absurd (omega arith) }

pub last-step : (P : ℕ → Type 0) (n x y : ℕ) → Decides P (suc n) x y → IsLast P n x → IsLast P (suc n) y
last-step P n x y (inl here) old = rw here.1 (record { within = omega arith; has = λ some. here.0; none_after = λ k above upto p. absurd (omega arith) })
last-step P n x y (inr over) old = rw over.1 (record { within = omega (arith, old.within); has = old.has; none_after = λ k above upto p. go k above upto p (cases_lt n k) })
  where
    go : (k : ℕ) → x < k → k ≤ suc n → P k → (n < k) ⊎ (k ≤ n) → ⊥
    go k above upto p (inl past) = let e : k ≡ suc n = omega arith in over.0 (subst P e p)
    go k above upto p (inr early) = old.none_after k above early p

pub next-step : (P : ℕ → Type 0) (past n x y : ℕ) → suc n ≤ past → Decides P (suc n) x y → IsFirst (λ k. (suc n < k) × P k) past x → IsFirst (λ k. (n < k) × P k) past y
next-step P past n x y within (inl here) old = rw here.1 (first-here P past n within here.0)
next-step P past n x y within (inr over) old = rw over.1 (first-over P past n x over.0 old)

-- of listed numbers, one more before them
pub listed-step : (P : ℕ → Type 0) (past n x y : ℕ) (later : List ℕ) → suc n ≤ past → ((k : ℕ) → Has later k → suc n < k) → Decides P (suc n) x y → IsFirst (λ k. Has later k × P k) past x → IsFirst (λ k. Has (suc n ∷ later) k × P k) past y
listed-step P past n x y later within above (inl here) old =
    rw here.1 (record { within = within; has = λ h. (inl refl, here.0); none_before = λ k below h. elim h.0 [ inl e ↦ absurd (omega (arith, e, below)) | inr more ↦ absurd (omega (arith, above k more, below)) ] })
listed-step P past n x y later within above (inr over) old =
    rw over.1 (first-same (λ k. Has later k × P k) (λ k. Has (suc n ∷ later) k × P k) past x (λ k h. (inr h.0, h.1)) (λ k h. elim h.0 [ inl e ↦ absurd (over.0 (subst P (sym e) h.1)) | inr more ↦ (more, h.1) ]) old)

-- the fences of a thread
pub fence-decides : (T : Recording) (n number t x : ℕ) (a : Act) → number ≡ suc n → IsAct T (suc n) a → Decides (λ k. IsAct T k (Fences t)) (suc n) x (fence_by a number t x)
fence-decides T n number t x (Stores l w) same is = inr (λ f. let e = act-unique T (suc n) (Stores l w) (Fences t) is f in cc, refl)
fence-decides T n number t x (Flushes u l) same is = inr (λ f. let e = act-unique T (suc n) (Flushes u l) (Fences t) is f in cc, refl)
fence-decides T n number t x (Clflushes l) same is = inr (λ f. let e = act-unique T (suc n) (Clflushes l) (Fences t) is f in cc, refl)
fence-decides T n number t x Asserts same is = inr (λ f. let e = act-unique T (suc n) Asserts (Fences t) is f in cc, refl)
fence-decides T n number t x (Fences u) same is = elim (cases_eq u t) [
  | inl e ↦ inl (subst (λ v. IsAct T (suc n) (Fences v)) e is, ap (λ b. if b then number else x) (eq-eqb u t e) ∙ same)
  | inr apart ↦ inr (λ f. let e = act-unique T (suc n) (Fences u) (Fences t) is f in apart (cc), ap (λ b. if b then number else x) (ne_eqb u t apart))
]

-- the flushes of a line by a thread
pub flush-decides : (T : Recording) (n number t l x : ℕ) (a : Act) → number ≡ suc n → IsAct T (suc n) a → Decides (λ k. IsAct T k (Flushes t l)) (suc n) x (flush_by a number t l x)
flush-decides T n number t l x (Stores k w) same is = inr (λ f. let e = act-unique T (suc n) (Stores k w) (Flushes t l) is f in cc, refl)
flush-decides T n number t l x (Clflushes k) same is = inr (λ f. let e = act-unique T (suc n) (Clflushes k) (Flushes t l) is f in cc, refl)
flush-decides T n number t l x (Fences u) same is = inr (λ f. let e = act-unique T (suc n) (Fences u) (Flushes t l) is f in cc, refl)
flush-decides T n number t l x Asserts same is = inr (λ f. let e = act-unique T (suc n) Asserts (Flushes t l) is f in cc, refl)
flush-decides T n number t l x (Flushes u k) same is = go (cases_eq u t) (cases_eq k l)
  where
    go : (u ≡ t) ⊎ (u ≢ t) → (k ≡ l) ⊎ (k ≢ l) → Decides (λ i. IsAct T i (Flushes t l)) (suc n) x (flush_by (Flushes u k) number t l x)
    go (inl e) (inl f) = inl (subst (λ m. IsAct T (suc n) (Flushes t m)) f (subst (λ v. IsAct T (suc n) (Flushes v k)) e is), rw (eq-eqb u t e, eq-eqb k l f) same)
    go (inl e) (inr apart) = inr (λ f. let both = act-unique T (suc n) (Flushes u k) (Flushes t l) is f in apart (cc), rw (eq-eqb u t e, ne_eqb k l apart) refl)
    go (inr apart) either = inr (λ f. let both = act-unique T (suc n) (Flushes u k) (Flushes t l) is f in apart (cc), rw (ne_eqb u t apart) refl)
