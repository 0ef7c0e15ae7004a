-- The fences without flush, by what each thread has flushed since its last fence.
use Rattle.std.proofs.Common.{◌≡◌, ◌≢◌, ℕ, zero, suc, ◌<◌, ◌≤◌, ◌⊎◌, inl, inr, Bool, true, false, List, [], ◌∷◌, length, refl, sym, subst, arith}
use Rattle.std.specs.Prelude.{◌==◌, if◌then◌else◌}
use Rattle.std.proofs.lemmas.Bool.{cases_lt, cases_eq, eq-eqb, ne_eqb}
use Rattle.pmt_laws.specs.Prelude.{Act, Stores, Flushes, Clflushes, Fences, Asserts, Recording, IsAct, history, IsEmptyFence}
use Rattle.pmt_laws.proofs.Histories.{history-act, history-step, act-within, act-unique}

-- the thread has flushed a line since its last fence
abbrev pub has_flushed : ℕ → List Act → Bool
has_flushed t [] = false
has_flushed t (Stores l w ∷ h) = has_flushed t h
has_flushed t (Flushes u l ∷ h) = if u == t then true else has_flushed t h
has_flushed t (Clflushes l ∷ h) = has_flushed t h
has_flushed t (Fences u ∷ h) = if u == t then false else has_flushed t h
has_flushed t (Asserts ∷ h) = has_flushed t h

-- what an act of another kind or thread leaves
abbrev pub LeavesFlushed : ℕ → Act → Type 0
LeavesFlushed t (Stores l w) = Unit {0}
LeavesFlushed t (Flushes u l) = u ≢ t
LeavesFlushed t (Clflushes l) = Unit {0}
LeavesFlushed t (Fences u) = u ≢ t
LeavesFlushed t Asserts = Unit {0}

pub has_flushed-left : (t : ℕ) (a : Act) (h : List Act) → LeavesFlushed t a → has_flushed t (a ∷ h) ≡ has_flushed t h
has_flushed-left t (Stores l w) h other = refl
has_flushed-left t (Flushes u l) h other = rw (ne_eqb u t other) refl
has_flushed-left t (Clflushes l) h other = refl
has_flushed-left t (Fences u) h other = rw (ne_eqb u t other) refl
has_flushed-left t Asserts h other = refl

pub has_flushed-flush : (t l : ℕ) (h : List Act) → has_flushed t (Flushes t l ∷ h) ≡ true
has_flushed-flush t l h = rw (eq-eqb t t refl) refl

pub has_flushed-fence : (t : ℕ) (h : List Act) → has_flushed t (Fences t ∷ h) ≡ false
has_flushed-fence t h = rw (eq-eqb t t refl) refl

-- a flush by the thread at or before n, with no fence by it from there to n
record IsOpenFlush (T : Recording) (t n : ℕ) : Type 0 where
  place : ℕ
  line : ℕ
  is_flush : IsAct T place (Flushes t line)
  by_now : place ≤ n
  unfenced : (k : ℕ) → place < k → k ≤ n → ¬ IsAct T k (Fences t)

-- each flush by the thread at or before n has a fence by it from there to n
abbrev AllFenced : Recording → ℕ → ℕ → Type 0
AllFenced T t n = (j l : ℕ) → j ≤ n → IsAct T j (Flushes t l) → (k : ℕ) × (j < k) × (k ≤ n) × IsAct T k (Fences t)

abbrev Flushed : Recording → ℕ → ℕ → Bool → Type 0
Flushed T t n true = IsOpenFlush T t n
Flushed T t n false = AllFenced T t n

-- the kinds of act that a thread's flushes are told by
data Concern (t : ℕ) : Act → Type 0 where
  Own_flush : (l : ℕ) → Concern t (Flushes t l)
  Own_fence : Concern t (Fences t)
  Another : {a : Act} → LeavesFlushed t a → ((l : ℕ) → a ≢ Flushes t l) → a ≢ Fences t → Concern t a

concern : (t : ℕ) (a : Act) → Concern t a
concern t (Stores l w) = Another tt (λ k e. cc) (λ e. cc)
concern t (Flushes u l) =
    elim (cases_eq u t) [
      | inl same ↦ subst (λ v. Concern t (Flushes v l)) (sym same) (Own_flush l)
      | inr other ↦ Another other (λ k e. other (thread-flush u t l k e)) (λ e. cc)
    ]
  where
    thread-flush : (u t l k : ℕ) → Flushes u l ≡ Flushes t k → u ≡ t
    thread-flush u t l k e = cc
concern t (Clflushes l) = Another tt (λ k e. cc) (λ e. cc)
concern t (Fences u) =
    elim (cases_eq u t) [
      | inl same ↦ subst (λ v. Concern t (Fences v)) (sym same) Own_fence
      | inr other ↦ Another other (λ k e. cc) (λ e. other (thread-fence u t e))
    ]
  where
    thread-fence : (u t : ℕ) → Fences u ≡ Fences t → u ≡ t
    thread-fence u t e = cc
concern t Asserts = Another tt (λ k e. cc) (λ e. cc)

-- what is so at place n is so at the next one, if the event there is none of the thread's flushes and fences
flushed-left : (T : Recording) (t n : ℕ) (b : Bool) → ((l : ℕ) → ¬ IsAct T (suc n) (Flushes t l)) → ¬ IsAct T (suc n) (Fences t) → Flushed T t n b → Flushed T t (suc n) b
flushed-left T t n true unflushed unfenced f =
    record { place = f.place; line = f.line; is_flush = f.is_flush; by_now = omega (arith, f.by_now); unfenced = λ k after by. go k after by (cases_lt n k) }
  where
    go : (k : ℕ) → f.place < k → k ≤ suc n → (n < k) ⊎ (k ≤ n) → ¬ IsAct T k (Fences t)
    go k after by (inl last) = let e : k ≡ suc n = omega arith in λ is. unfenced (subst (λ j. IsAct T j (Fences t)) e is)
    go k after by (inr before) = f.unfenced k after before
flushed-left T t n false unflushed unfenced f = λ j l by is. go j l by is (cases_lt n j)
  where
    go : (j l : ℕ) → j ≤ suc n → IsAct T j (Flushes t l) → (n < j) ⊎ (j ≤ n) → (k : ℕ) × (j < k) × (k ≤ suc n) × IsAct T k (Fences t)
    go j l by is (inl last) = let e : j ≡ suc n = omega arith in absurd (unflushed l (subst (λ i. IsAct T i (Flushes t l)) e is))
    go j l by is (inr before) = let x = f j l before is in (x.0, x.1, omega (arith, x.2), x.3)

none-at : (T : Recording) (n : ℕ) (a : Act) → length T.events ≤ n → ¬ IsAct T (suc n) a
none-at T n a past = λ is. absurd (omega (arith, (act-within T (suc n) a is).1))

-- what the test says of the trace
flushed : (T : Recording) (t n : ℕ) → Flushed T t n (has_flushed t (history T n))
flushed T t zero = λ j l by is. absurd (omega (arith, (act-within T j (Flushes t l) is).0))
flushed T t (suc n) =
    elim (history-step T n) [
      | inl x ↦ rw (history-act T n x.0 x.1) (go x.0 x.1 (concern t x.0) (flushed T t n))
      | inr x ↦ rw x.1 (flushed-left T t n (has_flushed t (history T n)) (λ l. none-at T n (Flushes t l) x.0) (none-at T n (Fences t) x.0) (flushed T t n))
    ]
  where
    go : (a : Act) → IsAct T (suc n) a → Concern t a → Flushed T t n (has_flushed t (history T n)) → Flushed T t (suc n) (has_flushed t (a ∷ history T n))
    go a is (Own_flush l) f =
        subst (Flushed T t (suc n)) (sym (has_flushed-flush t l (history T n)))
        (record { place = suc n; line = l; is_flush = is; by_now = omega arith; unfenced = λ k after by. absurd (omega arith) })
    go a is Own_fence f =
        subst (Flushed T t (suc n)) (sym (has_flushed-fence t (history T n)))
        (λ j l by flush. (suc n, earlier j l by flush (cases_lt n j), omega arith, is))
      where
        earlier : (j l : ℕ) → j ≤ suc n → IsAct T j (Flushes t l) → (n < j) ⊎ (j ≤ n) → j < suc n
        earlier j l by flush (inl last) =
            let e : j ≡ suc n = omega arith in
            let both : Flushes t l ≡ Fences t = act-unique T (suc n) (Flushes t l) (Fences t) (subst (λ i. IsAct T i (Flushes t l)) e flush) is in cc
        earlier j l by flush (inr before) = omega arith
    go a is (Another left no_flush no_fence) f =
        subst (Flushed T t (suc n)) (sym (has_flushed-left t a (history T n) left))
        (flushed-left T t n (has_flushed t (history T n)) (λ l flush. no_flush l (act-unique T (suc n) a (Flushes t l) is flush)) (λ fence. no_fence (act-unique T (suc n) a (Fences t) is fence)) f)

-- a fence has no flush where its thread has flushed nothing since its last one
pub empty-from_test : (T : Recording) (t n : ℕ) → IsAct T (suc n) (Fences t) → has_flushed t (history T n) ≡ false → IsEmptyFence T (suc n)
empty-from_test T t n is none =
    let all = subst (Flushed T t n) none (flushed T t n) in
    record { thread = t; is_fence = is; nothing = λ j l before flush. let x = all j l (omega arith) flush in (x.0, x.1, omega (arith, x.2), x.3) }

pub test-from_empty : (T : Recording) (t n : ℕ) → IsAct T (suc n) (Fences t) → IsEmptyFence T (suc n) → has_flushed t (history T n) ≡ false
test-from_empty T t n is empty = go (has_flushed t (history T n)) refl
  where
    same : empty.thread ≡ t
    same = let e : Fences empty.thread ≡ Fences t = act-unique T (suc n) (Fences empty.thread) (Fences t) empty.is_fence is in cc

    go : (b : Bool) → has_flushed t (history T n) ≡ b → has_flushed t (history T n) ≡ false
    go false e = e
    go true e =
        let open_flush = subst (Flushed T t n) e (flushed T t n) in
        let x = empty.nothing open_flush.place open_flush.line (omega (arith, open_flush.by_now)) (subst (λ u. IsAct T open_flush.place (Flushes u open_flush.line)) (sym same) open_flush.is_flush) in
        absurd (open_flush.unfenced x.0 x.1 (omega (arith, x.2)) (subst (λ u. IsAct T x.0 (Fences u)) same x.3))
