-- A line for which something is kept is among the lines of the trace.
use Rattle.std.proofs.Common.{◌≡◌, ◌≢◌, ℕ, zero, suc, ◌-◌, ◌≤◌, ◌⊎◌, inl, inr, Bool, true, false, List, [], ◌∷◌, ◌++◌, length, refl, sym, subst, arith}
use Rattle.std.specs.Prelude.{◌==◌, if◌then◌else◌}
use Rattle.std.proofs.lemmas.Bool.{cases_lt, eqb-true, or_cases}
use Rattle.pmt_laws.specs.Prelude.{Act, Stores, Flushes, Clflushes, Fences, Asserts, Recording, IsAct, history, has_line, with_line, lines_of, front_at, Has}
use Rattle.pmt_laws.proofs.Histories.{act-within, history-act, history-step}
use Rattle.pmt_trim.specs.Kept as kept
use Rattle.pmt_trim.specs.Kept.{IsKeptFor}
use Rattle.pmt_trim.proofs.Waiting.{awaited-flush}

-- a line that was found is in the list
has-found : (l : ℕ) (lines : List ℕ) → has_line l lines ≡ true → Has lines l
has-found l [] e = cc
has-found l (k ∷ lines) e = elim (or_cases (k == l) (has_line l lines) e) [ inl x ↦ inl (eqb-true k l x) | inr x ↦ inr (has-found l lines x) ]

-- a list with more at its end has what it had, and that
has-before : (lines more : List ℕ) (k : ℕ) → Has lines k → Has (lines ++ more) k
has-before [] more k h = absurd h
has-before (j ∷ lines) more k (inl e) = inl e
has-before (j ∷ lines) more k (inr h) = inr (has-before lines more k h)

has-last : (lines : List ℕ) (l : ℕ) → Has (lines ++ l ∷ []) l
has-last [] l = inl refl
has-last (j ∷ lines) l = inr (has-last lines l)

-- lines stay, and the line is added
has-with_line : (l k : ℕ) (lines : List ℕ) → (l ≡ k) ⊎ Has lines k → Has (with_line l lines) k
has-with_line l k lines x = go (has_line l lines) refl x
  where
    go : (b : Bool) → has_line l lines ≡ b → (l ≡ k) ⊎ Has lines k → Has (if b then lines else lines ++ l ∷ []) k
    go true found (inl e) = subst (λ j. Has lines j) e (has-found l lines found)
    go true found (inr h) = h
    go false found (inl e) = subst (λ j. Has (lines ++ l ∷ []) j) e (has-last lines l)
    go false found (inr h) = has-before lines (l ∷ []) k h

-- the lines so far stay
lines-grow : (l : ℕ) (a : Act) (h : List Act) → Has (lines_of h) l → Has (lines_of (a ∷ h)) l
lines-grow l (Stores k w) h x = has-with_line k l (lines_of h) (inr x)
lines-grow l (Flushes t k) h x = has-with_line k l (lines_of h) (inr x)
lines-grow l (Clflushes k) h x = has-with_line k l (lines_of h) (inr x)
lines-grow l (Fences t) h x = x
lines-grow l Asserts h x = x

lines-mono : (T : Recording) (l m n : ℕ) → m ≤ n → Has (lines_of (history T m)) l → Has (lines_of (history T n)) l
lines-mono T l m zero h x = let e : m ≡ 0 = omega arith in subst (λ k. Has (lines_of (history T k)) l) e x
lines-mono T l m (suc n) h x =
    elim (cases_lt n m) [
      | inl past ↦ let e : m ≡ suc n = omega arith in subst (λ k. Has (lines_of (history T k)) l) e x
      | inr more ↦ go (history-step T n) (lines-mono T l m n more x)
    ]
  where
    go : ((a : Act) × IsAct T (suc n) a) ⊎ ((length T.events ≤ n) × (history T (suc n) ≡ history T n)) → Has (lines_of (history T n)) l → Has (lines_of (history T (suc n))) l
    go (inl x) y = subst (λ h. Has (lines_of h) l) (sym (history-act T n x.0 x.1)) (lines-grow l x.0 (history T n) y)
    go (inr x) y = subst (λ h. Has (lines_of h) l) (sym x.1) y

-- a flushed line is one of the trace
line-flushed : (T : Recording) (t l n : ℕ) → IsAct T n (Flushes t l) → Has (lines_of (history T (length T.events))) l
line-flushed T t l zero is = let x = act-within T 0 (Flushes t l) is in absurd (omega arith)
line-flushed T t l (suc n) is =
    lines-mono T l (suc n) (length T.events) (act-within T (suc n) (Flushes t l) is).1
    (subst (λ h. Has (lines_of h) l) (sym (history-act T n (Flushes t l) is)) (has-with_line l l (lines_of (history T n)) (inl refl)))

line-flushed_now : (T : Recording) (l n : ℕ) → IsAct T n (Clflushes l) → Has (lines_of (history T (length T.events))) l
line-flushed_now T l zero is = let x = act-within T 0 (Clflushes l) is in absurd (omega arith)
line-flushed_now T l (suc n) is =
    lines-mono T l (suc n) (length T.events) (act-within T (suc n) (Clflushes l) is).1
    (subst (λ h. Has (lines_of h) l) (sym (history-act T n (Clflushes l) is)) (has-with_line l l (lines_of (history T n)) (inl refl)))

-- and so is one whose front a fence raises
line-fenced : (T : Recording) (t l n : ℕ) → IsAct T n (Fences t) → front_at T l n ≢ front_at T l (n - 1) → Has (lines_of (history T (length T.events))) l
line-fenced T t l zero is raises = absurd (raises refl)
line-fenced T t l (suc n) is raises =
    let e : suc n - 1 ≡ n = omega arith in
    let found = awaited-flush T l t n is (subst (λ m. front_at T l (suc n) ≢ front_at T l m) e raises) in
    line-flushed T t l found.1.0 found.1.1.is_flush

-- a line for which an event is kept is one of the trace
pub kept-line : (T : Recording) (l n : ℕ) → IsKeptFor T l n → Has (lines_of (history T (length T.events))) l
kept-line T l n (kept.ByFlush u e) = subst (λ k. Has (lines_of (history T (length T.events))) k) e (line-flushed T u.thread u.line n u.is_flush)
kept-line T l n (kept.ByClflush u e) = subst (λ k. Has (lines_of (history T (length T.events))) k) e (line-flushed_now T u.line n u.is_clflush)
kept-line T l n (kept.ByFence t is raises) = line-fenced T t l n is raises
