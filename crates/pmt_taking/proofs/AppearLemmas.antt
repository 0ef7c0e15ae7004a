-- The lines of a trace: an act on a line makes it appear.
use Rattle.std.proofs.Common.{◌≡◌, ◌≢◌, ℕ, zero, suc, ◌≤◌, ◌⊎◌, inl, inr, Bool, true, false, List, [], ◌∷◌, ◌++◌, length, refl, sym, ap, subst, ◌∙◌, arith}
use Rattle.std.specs.Prelude.{◌==◌, ◌||◌, if◌then◌else◌}
use Rattle.std.proofs.lemmas.Bool.{cases_lt, eqb-false, both_ways, or_parts}
use Rattle.pmt_laws.specs.Prelude.{Act, Stores, Flushes, Clflushes, Fences, Asserts, Recording, IsAct, history, has_line, with_line, lines_of}
use Rattle.pmt_laws.proofs.Histories.{history-act, history-step, act-within}

-- with one line more at the end
pub has_line-push : (k : ℕ) (places : List ℕ) (place : ℕ) → has_line k (places ++ place ∷ []) ≡ (has_line k places || (place == k))
has_line-push k [] place = go (place == k)
  where
    go : (b : Bool) → (b || false) ≡ b
    go true = refl
    go false = refl
has_line-push k (x ∷ places) place = ap (λ b. (x == k) || b) (has_line-push k places place) ∙ go (x == k) (has_line k places) (place == k)
  where
    go : (a b c : Bool) → (a || (b || c)) ≡ ((a || b) || c)
    go true b c = refl
    go false b c = refl

-- the act is a store, a flush or a clflush of line l
abbrev pub IsOnLine : ℕ → Act → Type 0
IsOnLine l (Stores k w) = k ≡ l
IsOnLine l (Flushes t k) = k ≡ l
IsOnLine l (Clflushes k) = k ≡ l
IsOnLine l (Fences t) = ⊥
IsOnLine l Asserts = ⊥

-- a line that is not among the lines with k is not k, and was not among them before
absent-with_line : (l k : ℕ) (lines : List ℕ) → has_line l (with_line k lines) ≡ false → (k ≢ l) × (has_line l lines ≡ false)
absent-with_line l k lines e = go (has_line k lines) refl e
  where
    go : (b : Bool) → has_line k lines ≡ b → has_line l (if b then lines else lines ++ k ∷ []) ≡ false → (k ≢ l) × (has_line l lines ≡ false)
    go true had absent = (λ same. both_ways (has_line l lines) absent (subst (λ j. has_line j lines ≡ true) same had), absent)
    go false had absent =
        let parts = or_parts (has_line l lines) (k == l) (sym (has_line-push l lines k) ∙ absent) in
        (λ same. eqb-false k l parts.1 same, parts.0)

pub absent-act : (l : ℕ) (a : Act) (h : List Act) → has_line l (lines_of (a ∷ h)) ≡ false → (¬ IsOnLine l a) × (has_line l (lines_of h) ≡ false)
absent-act l (Stores k w) h e = absent-with_line l k (lines_of h) e
absent-act l (Flushes t k) h e = absent-with_line l k (lines_of h) e
absent-act l (Clflushes k) h e = absent-with_line l k (lines_of h) e
absent-act l (Fences t) h e = (λ on. on, e)
absent-act l Asserts h e = (λ on. on, e)

-- at no place before
pub absent-before : (T : Recording) (l n k : ℕ) → k ≤ n → has_line l (lines_of (history T n)) ≡ false → has_line l (lines_of (history T k)) ≡ false
absent-before T l zero k h e = let same : 0 ≡ k = omega arith in subst (λ j. has_line l (lines_of (history T j)) ≡ false) same e
absent-before T l (suc n) k h e =
    elim (cases_lt n k) [
      | inl last ↦ let same : suc n ≡ k = omega arith in subst (λ j. has_line l (lines_of (history T j)) ≡ false) same e
      | inr before ↦ absent-before T l n k before (go (history-step T n))
    ]
  where
    go : ((a : Act) × IsAct T (suc n) a) ⊎ ((length T.events ≤ n) × (history T (suc n) ≡ history T n)) → has_line l (lines_of (history T n)) ≡ false
    go (inl x) = (absent-act l x.0 (history T n) (ap (λ h. has_line l (lines_of h)) (sym (history-act T n x.0 x.1)) ∙ e)).1
    go (inr x) = ap (λ h. has_line l (lines_of h)) (sym x.1) ∙ e

-- an act on the line makes it appear
pub appears : (T : Recording) (l k : ℕ) (a : Act) → has_line l (lines_of (history T (length T.events))) ≡ false → IsAct T k a → IsOnLine l a → ⊥
appears T l zero a e is on = absurd (omega (arith, (act-within T zero a is).0))
appears T l (suc k) a e is on =
    let absent = absent-before T l (length T.events) (suc k) (act-within T (suc k) a is).1 e in
    (absent-act l a (history T k) (ap (λ h. has_line l (lines_of h)) (sym (history-act T k a is)) ∙ absent)).0 on
