-- The front by recursion is the greatest number of stores that a completed flush marked.
use Rattle.std.proofs.Common.{◌≡◌, ℕ, zero, suc, ◌<◌, ◌≤◌, max, ◌⊎◌, inl, inr, ◌∷◌, ◌&&◌, ◌==◌, refl, sym, ap, subst, subst₂, ◌∙◌, eqb-true, arith}
use Rattle.std.proofs.lemmas.Bool.{cond_both, cases_lt, and_parts}
use Rattle.std.proofs.lemmas.Option.{none-some}
use Rattle.pmt_laws.specs.Prelude.{Act, Flushes, Clflushes, Fences, count, Recording, IsAct, history, count_at, IsCompleted, mark, front, front_at}
use Rattle.pmt_laws.specs.ModelLaws.{FrontsAreGreatest}
use Rattle.pmt_laws.proofs.Histories.{history-act, history-step, front-mono, mono-from_grows}
use Rattle.pmt_laws.proofs.OutstandingFlushes.{mark-flush, mark-grows}
use Rattle.pmt_laws.proofs.BoxLemmas.{front-flush_now}

-- a number of stores that a flush of the line by the thread marked by place n
pub record IsMarked (T : Recording) (t l n c : ℕ) : Type 0 where
  pub flush : ℕ
  pub is_flush : IsAct T flush (Flushes t l)
  pub by_now : flush ≤ n
  pub stores : count_at T l flush ≡ c

-- the number is 0, or a flush of the line by the thread marked so many stores by place n
abbrev pub IsMarkOf : Recording → ℕ → ℕ → ℕ → ℕ → Type 0
IsMarkOf T t l n c = (c ≡ 0) ⊎ IsMarked T t l n c

-- what was marked by a place was so by the next
marked-suc : (T : Recording) (t l n c : ℕ) → IsMarkOf T t l n c → IsMarkOf T t l (suc n) c
marked-suc T t l n c (inl none) = inl none
marked-suc T t l n c (inr x) = inr (record { flush = x.flush; is_flush = x.is_flush; by_now = omega arith; stores = x.stores })

-- the mark at the next place, after one more act
mark_of-act : (T : Recording) (t l n : ℕ) (a : Act) → IsAct T (suc n) a → IsMarkOf T t l n (mark t l (history T n)) → IsMarkOf T t l (suc n) (mark t l (a ∷ history T n))
mark_of-act T t l n (Flushes u k) is old =
    cond_both ((u == t) && (k == l)) (count l (history T n)) (mark t l (history T n)) (IsMarkOf T t l (suc n))
    (λ both.
    let parts = and_parts (u == t) (k == l) both in
    inr (record {
      flush = suc n;
      is_flush = subst₂ (λ v j. IsAct T (suc n) (Flushes v j)) (eqb-true u t parts.0) (eqb-true k l parts.1) is;
      by_now = omega arith;
      stores = ap (count l) (history-act T n (Flushes u k) is);
    }))
    (λ other. marked-suc T t l n (mark t l (history T n)) old)
mark_of-act T t l n a is old = marked-suc T t l n (mark t l (history T n)) old

-- a mark is 0, or what a flush marked
pub mark-reached : (T : Recording) (t l n : ℕ) → IsMarkOf T t l n (mark t l (history T n))
mark-reached T t l zero = inl refl
mark-reached T t l (suc n) =
    let old = mark-reached T t l n in
    elim (history-step T n) [
      | inl x ↦ subst (λ h. IsMarkOf T t l (suc n) (mark t l h)) (sym (history-act T n x.0 x.1)) (mark_of-act T t l n x.0 x.1 old)
      | inr x ↦ subst (λ h. IsMarkOf T t l (suc n) (mark t l h)) (sym x.1) (marked-suc T t l n (mark t l (history T n)) old)
    ]

-- marks don't fall from place to place
pub mark-mono : (T : Recording) (t l m n : ℕ) → m ≤ n → mark t l (history T m) ≤ mark t l (history T n)
mark-mono T t l m n h = mono-from_grows T (mark t l) (mark-grows t l) m n h

-- no flush marked more than the mark
pub mark-greatest : (T : Recording) (t l i n : ℕ) → IsAct T i (Flushes t l) → i ≤ n → count_at T l i ≤ mark t l (history T n)
mark-greatest T t l zero n is by_now = absurd (none-some is.0 is.1)
mark-greatest T t l (suc i) n is by_now =
    let new = history-act T i (Flushes t l) is in
    let counted : count_at T l (suc i) ≡ count l (history T i) = ap (count l) new in
    let marked : mark t l (history T (suc i)) ≡ count l (history T i) = ap (mark t l) new ∙ mark-flush t l (history T i) in
    let later = mark-mono T t l (suc i) n by_now in
    omega arith

-- the number is 0, or a completed flush marked it
abbrev pub IsFrontOf : Recording → ℕ → ℕ → ℕ → Type 0
IsFrontOf T l n c = (c ≡ 0) ⊎ IsCompleted T l n c

-- a flush that is completed stays so
pub completed-later : (T : Recording) (l m n c : ℕ) → m ≤ n → IsCompleted T l m c → IsCompleted T l n c
completed-later T l m n c h (inl x) = inl (record
    { thread = x.thread; flush = x.flush; fence = x.fence; is_flush = x.is_flush; is_fence = x.is_fence; later = x.later; by_now = omega arith; stores = x.stores })
completed-later T l m n c h (inr x) = inr (record { clflush = x.clflush; is_clflush = x.is_clflush; by_now = omega arith; stores = x.stores })

-- what was completed by a place was so by the next
front_of-suc : (T : Recording) (l n c : ℕ) → IsFrontOf T l n c → IsFrontOf T l (suc n) c
front_of-suc T l n c (inl none) = inl none
front_of-suc T l n c (inr x) = inr (completed-later T l n (suc n) c (omega arith) x)

-- a fence of the thread completes what a flush marked
front_of-fence : (T : Recording) (t l n c : ℕ) → IsAct T (suc n) (Fences t) → IsMarkOf T t l n c → IsFrontOf T l (suc n) c
front_of-fence T t l n c is (inl none) = inl none
front_of-fence T t l n c is (inr x) = inr (inl (record
    { thread = t; flush = x.flush; fence = suc n; is_flush = x.is_flush; is_fence = is; later = omega arith; by_now = omega arith; stores = x.stores }))

-- the front at the next place, after one more act
front_of-act : (T : Recording) (l n : ℕ) (a : Act) → IsAct T (suc n) a → IsFrontOf T l n (front_at T l n) → IsFrontOf T l (suc n) (front l (a ∷ history T n))
front_of-act T l n (Clflushes k) is old =
    cond_both (k == l) (count l (history T n)) (front_at T l n) (IsFrontOf T l (suc n))
    (λ same. inr (inr (record {
      clflush = suc n;
      is_clflush = subst (λ j. IsAct T (suc n) (Clflushes j)) (eqb-true k l same) is;
      by_now = omega arith;
      stores = ap (count l) (history-act T n (Clflushes k) is);
    })))
    (λ other. front_of-suc T l n (front_at T l n) old)
front_of-act T l n (Fences t) is old =
    elim (cases_lt (front_at T l n) (mark t l (history T n))) [
      | inl raised ↦
          let e : mark t l (history T n) ≡ max (front_at T l n) (mark t l (history T n)) = omega arith in
          subst (IsFrontOf T l (suc n)) e (front_of-fence T t l n (mark t l (history T n)) is (mark-reached T t l n))
      | inr same ↦
          let e : front_at T l n ≡ max (front_at T l n) (mark t l (history T n)) = omega arith in
          subst (IsFrontOf T l (suc n)) e (front_of-suc T l n (front_at T l n) old)
    ]
front_of-act T l n a is old = front_of-suc T l n (front_at T l n) old

-- a front is 0, or what a completed flush marked
pub front-reached : (T : Recording) (l n : ℕ) → IsFrontOf T l n (front_at T l n)
front-reached T l zero = inl refl
front-reached T l (suc n) =
    let old = front-reached T l n in
    elim (history-step T n) [
      | inl x ↦ subst (λ h. IsFrontOf T l (suc n) (front l h)) (sym (history-act T n x.0 x.1)) (front_of-act T l n x.0 x.1 old)
      | inr x ↦ subst (λ h. IsFrontOf T l (suc n) (front l h)) (sym x.1) (front_of-suc T l n (front_at T l n) old)
    ]

-- a fence completes at least each flush of its thread before
fenced-le_front : (T : Recording) (t l i j n : ℕ) → IsAct T i (Flushes t l) → IsAct T j (Fences t) → i < j → j ≤ n → count_at T l i ≤ front_at T l n
fenced-le_front T t l i zero n flush fence later by_now = absurd (none-some fence.0 fence.1)
fenced-le_front T t l i (suc j) n flush fence later by_now =
    let marked = mark-greatest T t l i j flush (omega arith) in
    let new : front_at T l (suc j) ≡ max (front_at T l j) (mark t l (history T j)) = ap (front l) (history-act T j (Fences t) fence) in
    let stays = front-mono T l (suc j) n by_now in
    omega arith

-- a clflush completes itself
flushed_now-le_front : (T : Recording) (l i n : ℕ) → IsAct T i (Clflushes l) → i ≤ n → count_at T l i ≤ front_at T l n
flushed_now-le_front T l zero n is by_now = absurd (none-some is.0 is.1)
flushed_now-le_front T l (suc i) n is by_now =
    let new = history-act T i (Clflushes l) is in
    let counted : count_at T l (suc i) ≡ count l (history T i) = ap (count l) new in
    let raised : front_at T l (suc i) ≡ count l (history T i) = ap (front l) new ∙ front-flush_now l (history T i) in
    let stays = front-mono T l (suc i) n by_now in
    omega arith

-- no completed flush marked more than the front
pub completed-le_front : (T : Recording) (l n c : ℕ) → IsCompleted T l n c → c ≤ front_at T l n
completed-le_front T l n c (inl x) = subst (λ k. k ≤ front_at T l n) x.stores (fenced-le_front T x.thread l x.flush x.fence n x.is_flush x.is_fence x.later x.by_now)
completed-le_front T l n c (inr x) = subst (λ k. k ≤ front_at T l n) x.stores (flushed_now-le_front T l x.clflush n x.is_clflush x.by_now)

-- the front by recursion is the greatest number of stores that a completed flush marked
pub fronts_are_greatest : FrontsAreGreatest
fronts_are_greatest T l n = record { reached = front-reached T l n; greatest = completed-le_front T l n }
