-- What the stores of a line's job tell of the trace.
use Rattle.std.proofs.Common.{◌≡◌, ℕ, zero, suc, ◌+◌, ◌-◌, ◌<◌, ◌≤◌, ◌⊎◌, inl, inr, List, [], ◌∷◌, length, refl, sym, ap, subst, ◌∙◌, arith}
use Rattle.std.proofs.lemmas.Bool.{cases_lt, cases_order}
use Rattle.pmt_laws.specs.Prelude.{Written, Act, Stores, Flushes, Clflushes, Fences, Asserts, count, Recording, IsAct, act, history, count_at}
use Rattle.pmt_laws.proofs.Histories.{history-act, history-step, act-within, count-mono}
use Rattle.pmt_laws.proofs.BoxLemmas.{count-store, count-store_other}
use Rattle.pmt_lines.specs.declared.step.StepKind.{StepKind}
use Rattle.pmt_lines.specs.declared.step.StepKind.TheVariants.{Store, Flush, Clflush, Fence}
use Rattle.pmt_lines.specs.declared.step.Step.{Step}
use Rattle.pmt_lines.specs.Jobs.{IsKind, IsStepOf, Touches, ByStore, IsWalkFrom, IsJobOf}
use Rattle.pmt_asserts.specs.declared.put.Put.{Put}
use Rattle.pmt_asserts.specs.Puts.{with_put, puts_of, put_at}

-- The store is the one of an event of the trace, to line l.
pub record IsPut (T : Recording) (l : ℕ) (p : Put) : Type 0 where
  pub what : Written
  pub is : IsAct T p.number (Stores l what)
  pub addr : what.addr ≡ p.addr
  pub len : length what.bytes ≡ p.len

-- After c stores to line l these are all that come.
abbrev pub ArePuts : Recording → ℕ → ℕ → List Put → Type 0
ArePuts T l c [] = count_at T l (length T.events) ≡ c
ArePuts T l c (p ∷ puts) = IsPut T l p × (count_at T l p.number ≡ suc c) × ArePuts T l (suc c) puts

-- a store to the line counts
pub count_at-store : (T : Recording) (l n : ℕ) (w : Written) → IsAct T (suc n) (Stores l w) → count_at T l (suc n) ≡ suc (count_at T l n)
count_at-store T l n w is = ap (count l) (history-act T n (Stores l w) is) ∙ count-store l l w (history T n) refl

-- the same by the number before
pub count_at-before : (T : Recording) (l n : ℕ) (w : Written) → IsAct T n (Stores l w) → count_at T l n ≡ suc (count_at T l (n - 1))
count_at-before T l zero w is = absurd (omega (arith, (act-within T zero (Stores l w) is).0))
count_at-before T l (suc n) w is = let e : suc n - 1 ≡ n = omega arith in rw e (count_at-store T l n w is)

-- an event that doesn't touch the line doesn't count
count_at-untouched : (T : Recording) (l n : ℕ) → ¬ Touches T l (suc n) → count_at T l (suc n) ≡ count_at T l n
count_at-untouched T l n untouched =
    elim (history-step T n) [ inl x ↦ ap (count l) (history-act T n x.0 x.1) ∙ go x.0 x.1 | inr x ↦ ap (count l) x.1 ]
  where
    go : (a : Act) → IsAct T (suc n) a → count l (a ∷ history T n) ≡ count l (history T n)
    go (Stores k w) is = count-store_other l k w (history T n) (λ same. untouched (ByStore w (subst (λ j. IsAct T (suc n) (Stores j w)) (sym same) is)))
    go (Flushes t k) is = refl
    go (Clflushes k) is = refl
    go (Fences t) is = refl
    go Asserts is = refl

-- the count stays over events that don't touch the line
count_at-over : (T : Recording) (l low n : ℕ) → low ≤ n → ((k : ℕ) → low < k → k ≤ n → ¬ Touches T l k) → count_at T l n ≡ count_at T l low
count_at-over T l low zero h untouched = let e : low ≡ 0 = omega arith in ap (count_at T l) (sym e)
count_at-over T l low (suc n) h untouched =
    elim (cases_lt n low) [
      | inl past ↦ let e : low ≡ suc n = omega arith in ap (count_at T l) (sym e)
      | inr more ↦ count_at-untouched T l n (untouched (suc n) (omega arith) (omega arith)) ∙ count_at-over T l low n more (λ k a b. untouched k a (omega arith))
    ]

-- the count before the next step of a walk
count_at-next : (T : Recording) (l low n : ℕ) → low < n → ((k : ℕ) → low < k → k < n → ¬ Touches T l k) → count_at T l (n - 1) ≡ count_at T l low
count_at-next T l low n h untouched = count_at-over T l low (n - 1) (omega arith) (λ k a b. untouched k a (omega arith))

-- an event that is no store doesn't count
count_at-other : (T : Recording) (l n : ℕ) (a : Act) → IsAct T n a → ((h : List Act) → count l (a ∷ h) ≡ count l h) → count_at T l n ≡ count_at T l (n - 1)
count_at-other T l zero a is same = absurd (omega (arith, (act-within T zero a is).0))
count_at-other T l (suc n) a is same = let e : suc n - 1 ≡ n = omega arith in rw e (ap (count l) (history-act T n a is) ∙ same (history T n))

-- an event's number is within the trace
by-within : (T : Recording) (l : ℕ) (s : Step) → IsStepOf T l s → s.number ≤ length T.events
by-within T l s is = let e = (is.by).0 in (act-within T s.number (act T.format e) (e, (is.by).1, refl)).1

-- the stores of a walk are those that come
walk-puts :
    (T : Recording) (l low c : ℕ) (steps : List Step) → low ≤ length T.events → IsWalkFrom (IsStepOf T l) (Touches T l) low steps →
    count_at T l low ≡ c → ArePuts T l c (puts_of steps)
walk-puts T l low c [] within walk counted = sym (sym counted ∙ sym (count_at-over T l low (length T.events) within (λ k a b. walk k a)))
walk-puts T l low c (s ∷ steps) within walk counted =
    go s.kind (walk.1).kind (λ c' e. walk-puts T l s.number c' steps (by-within T l s walk.1) walk.3 e)
  where
    before : count_at T l (s.number - 1) ≡ c
    before = count_at-next T l low s.number walk.0 walk.2 ∙ counted

    go : (k : StepKind) → IsKind T l s.number s.thread k → ((c' : ℕ) → count_at T l s.number ≡ c' → ArePuts T l c' (puts_of steps)) → ArePuts T l c (with_put s.number k (puts_of steps))
    go (Store addr len) is rest =
        let counts : count_at T l s.number ≡ suc c = count_at-before T l s.number is.0 is.1 ∙ ap (λ m. suc m) before in
        (record { what = is.0; is = is.1; addr = is.2; len = is.3 }, counts, rest (suc c) counts)
    go Flush is rest = rest c (count_at-other T l s.number (Flushes s.thread l) is (λ h. refl) ∙ before)
    go Clflush is rest = rest c (count_at-other T l s.number (Clflushes l) is (λ h. refl) ∙ before)
    go Fence is rest = rest c (count_at-other T l s.number (Fences s.thread) is (λ h. refl) ∙ before)

-- no store has come at the start
count_at-start : (T : Recording) (l : ℕ) → count_at T l 0 ≡ 0
count_at-start T l = refl

-- the stores of a line's job are those of the line
pub job-puts : (T : Recording) (l : ℕ) (steps : List Step) → IsJobOf T l steps → ArePuts T l 0 (puts_of steps)
job-puts T l steps job = walk-puts T l 0 0 steps (omega arith) job (count_at-start T l)

-- the store at a place of the list, and its rank
pub put-at : (T : Recording) (l c : ℕ) (puts : List Put) → ArePuts T l c puts → (k : ℕ) → k < length puts → IsPut T l (put_at puts k) × (count_at T l (put_at puts k).number ≡ suc (c + k))
put-at T l c [] are k h = absurd (omega arith)
put-at T l c (p ∷ puts) are zero h = (are.0, are.1 ∙ omega arith)
put-at T l c (p ∷ puts) are (suc k) h = let r = put-at T l (suc c) puts are.2 k (omega arith) in (r.0, r.1 ∙ omega arith)

-- how many there are
pub puts-length : (T : Recording) (l c : ℕ) (puts : List Put) → ArePuts T l c puts → count_at T l (length T.events) ≡ c + length puts
puts-length T l c [] are = are ∙ omega arith
puts-length T l c (p ∷ puts) are = puts-length T l (suc c) puts are.2 ∙ omega arith

-- two stores to a line with the same rank are the same event
pub same-store : (T : Recording) (l m n : ℕ) (v w : Written) → IsAct T m (Stores l v) → IsAct T n (Stores l w) → count_at T l m ≡ count_at T l n → m ≡ n
same-store T l m n v w a b e =
    elim (cases_order m n) [
      | inl same ↦ same
      | inr other ↦ elim other [
        | inl less ↦ absurd (omega (arith, count-mono T l m (n - 1) (omega arith), count_at-before T l n w b))
        | inr more ↦ absurd (omega (arith, count-mono T l n (m - 1) (omega arith), count_at-before T l m v a))
      ]
    ]

-- no more stores have come at a place than come in all
pub count_at-le_length : (T : Recording) (l n : ℕ) → count_at T l n ≤ count_at T l (length T.events)
count_at-le_length T l n =
    elim (cases_lt (length T.events) n) [
      | inl past ↦ let e = count_at-over-end n past in omega (arith, e)
      | inr within ↦ count-mono T l n (length T.events) within
    ]
  where
    count_at-over-end : (m : ℕ) → length T.events < m → count_at T l m ≤ count_at T l (length T.events)
    count_at-over-end zero h = absurd (omega arith)
    count_at-over-end (suc m) h =
        elim (history-step T m) [
          | inl x ↦ absurd (omega (arith, (act-within T (suc m) x.0 x.1).1))
          | inr x ↦ let e : count_at T l (suc m) ≡ count_at T l m = ap (count l) x.1 in
              elim (cases_lt (length T.events) m) [
                | inl past ↦ omega (arith, e, count_at-over-end m past)
                | inr within ↦ omega (arith, e, count-mono T l m (length T.events) within)
              ]
        ]

-- a store that comes later, and one that has come, bound their number
pub count-below : (T : Recording) (l n i : ℕ) (puts : List Put) → ArePuts T l 0 puts → i < length puts → n < (put_at puts i).number → count_at T l n ≤ i
count-below T l n i puts are within later =
    let p = put-at T l 0 puts are i within in
    omega (arith, p.1, count_at-before T l (put_at puts i).number (p.0).what (p.0).is, count-mono T l n ((put_at puts i).number - 1) (omega arith))

pub count-above : (T : Recording) (l n i : ℕ) (puts : List Put) → ArePuts T l 0 puts → i < length puts → (put_at puts i).number ≤ n → i < count_at T l n
count-above T l n i puts are within by_now = let p = put-at T l 0 puts are i within in omega (arith, p.1, count-mono T l (put_at puts i).number n by_now)

-- how many stores have come by a place, from their numbers
pub counted : (T : Recording) (l n i : ℕ) (puts : List Put) → ArePuts T l 0 puts → i ≤ length puts → ((k : ℕ) → k < i → (put_at puts k).number ≤ n) → ((k : ℕ) → i ≤ k → k < length puts → n < (put_at puts k).number) → count_at T l n ≡ i
counted T l n i puts are within by_now later = omega (arith, at_least i within by_now, at_most (cases_lt i (length puts)))
  where
    at_least : (j : ℕ) → j ≤ length puts → ((k : ℕ) → k < j → (put_at puts k).number ≤ n) → j ≤ count_at T l n
    at_least zero h f = omega arith
    at_least (suc j) h f = count-above T l n j puts are (omega arith) (f j (omega arith))

    at_most : (i < length puts) ⊎ (length puts ≤ i) → count_at T l n ≤ i
    at_most (inl more) = count-below T l n i puts are more (later i (omega arith) more)
    at_most (inr all) = omega (arith, count_at-le_length T l n, puts-length T l 0 puts are)

-- the numbers of the stores rise
pub numbers-rise : (T : Recording) (l : ℕ) (puts : List Put) → ArePuts T l 0 puts → (j k : ℕ) → j ≤ k → k < length puts → (put_at puts j).number ≤ (put_at puts k).number
numbers-rise T l puts are j k h within =
    elim (cases_lt (put_at puts k).number (put_at puts j).number) [
      | inl less ↦
          let a = put-at T l 0 puts are j (omega arith) in
          let b = put-at T l 0 puts are k within in
          let p = (put_at puts j).number in
          let q = (put_at puts k).number in
          absurd (omega (arith, a.1, b.1, count_at-before T l p (a.0).what (a.0).is, count-mono T l q (p - 1) (omega arith)))
      | inr fine ↦ fine
    ]
