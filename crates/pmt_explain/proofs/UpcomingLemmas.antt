-- The next fences of threads and the next flushes of lines, as events are read from the last to the first.
use Rattle.std.proofs.Common.{◌≡◌, ◌≢◌, ℕ, suc, ◌-◌, ◌<◌, ◌≤◌, inl, inr, List, [], length, refl, sym, ap, subst, ◌∙◌, arith, get_or}
use Rattle.std.specs.Prelude.{◌==◌, if◌then◌else◌}
use Rattle.std.proofs.lemmas.Bool.{cases_eq, eq-eqb, ne_eqb}
use Rattle.std.proofs.lemmas.Option.{slice_get-get_or}
use Rattle.pmt_laws.specs.Prelude.{Layout, Written, line_of, Act, Stores, Flushes, Clflushes, Fences, Asserts, Recording, IsAct, act_of, Op, Store, Clwb, ClflushOpt, Clflush, Sfence, Mfence, IsPersist, IsOrderedBefore, IsFlushOf, ByFlush, ByClflush}
use Rattle.pmt_laws.proofs.Histories.{act-unique, act-within}
use Rattle.pmt_reasons.proofs.CauseLaws.{no_flush_of}
use Rattle.pmt_explain.specs.Following.{IsFenceAfter, IsFirst, past_of, IsOn, ByStore, ByFlushOf, IsNextFlush, TellsNextFlush, AreNextFlushes, fence_by, next_in, next_before}
use Rattle.pmt_explain.specs.Numbers.{Numbers, number_at}
use Rattle.pmt_explain.proofs.FirstLemmas.{first-none, first-here, first-over}

-- ---- Fences

-- a fence, going back
pub fence-back : (T : Recording) (n number t x u : ℕ) (f : Layout) (o : Op) → IsAct T (suc n) (act_of f u o) → number ≡ suc n → IsFirst (IsFenceAfter T t (suc n)) (past_of T) x →
    IsFirst (IsFenceAfter T t n) (past_of T) (fence_by o u number t x)
fence-back T n number t x u f o is same first = by_op o is
  where
    over : (a : Act) → IsAct T (suc n) a → a ≢ Fences t → IsFirst (IsFenceAfter T t n) (past_of T) x
    over a is other = first-over (λ k. IsAct T k (Fences t)) (past_of T) n x (λ g. other (act-unique T (suc n) a (Fences t) is g)) first

    here : IsAct T (suc n) (Fences u) → IsFirst (IsFenceAfter T t n) (past_of T) (if u == t then number else x)
    here is = elim (cases_eq u t) [
      | inl e ↦
          let own : IsAct T (suc n) (Fences t) = subst (λ v. IsAct T (suc n) (Fences v)) e is in
          rw (eq-eqb u t e, same) (first-here (λ k. IsAct T k (Fences t)) (past_of T) n (omega (arith, (act-within T (suc n) (Fences t) own).1)) own)
      | inr apart ↦ rw (ne_eqb u t apart) (over (Fences u) is (λ e. apart (cc)))
    ]

    by_op : (o : Op) → IsAct T (suc n) (act_of f u o) → IsFirst (IsFenceAfter T t n) (past_of T) (fence_by o u number t x)
    by_op (Store w) is = over (Stores (line_of f w.addr) w) is (λ e. cc)
    by_op (Clwb a) is = over (Flushes u (line_of f a)) is (λ e. cc)
    by_op (ClflushOpt a) is = over (Flushes u (line_of f a)) is (λ e. cc)
    by_op (Clflush a) is = over (Clflushes (line_of f a)) is (λ e. cc)
    by_op Sfence is = here is
    by_op Mfence is = here is
    by_op (IsPersist r) is = over Asserts is (λ e. cc)
    by_op (IsOrderedBefore r q) is = over Asserts is (λ e. cc)

-- ---- Flushes

-- the next flushes after place n
abbrev pub IsAheadOf : Recording → ℕ → Numbers → Type 0
IsAheadOf T n flushes = (l : ℕ) → IsNextFlush T l n (number_at (past_of T) flushes l)

pub within-flush : (T : Recording) (l k : ℕ) → IsFlushOf T l k → k ≤ length T.events
within-flush T l k (ByFlush t is) = (act-within T k (Flushes t l) is).1
within-flush T l k (ByClflush is) = (act-within T k (Clflushes l) is).1

-- before any event is read
pub flushes-start : (T : Recording) (flushes : Numbers) → flushes ≡ [] → IsAheadOf T (length T.events) flushes
flushes-start T flushes none l =
    let value : number_at (past_of T) flushes l ≡ past_of T = rw none refl in
    subst (IsNextFlush T l (length T.events)) (sym value)
    (first-none (λ k. (length T.events < k) × IsFlushOf T l k) (past_of T) (λ k f. absurd (omega (arith, f.0, within-flush T l k f.1))))

here : (T : Recording) (n l number after : ℕ) (k : ℕ) → number ≡ suc n → (k ≡ l → IsFlushOf T l (suc n)) → (k ≢ l → ¬ IsFlushOf T l (suc n)) → IsNextFlush T l (suc n) after →
    IsNextFlush T l n (if k == l then number else after)
here T n l number after k same yes_flush no_flush x = elim (cases_eq k l) [
  | inl e ↦
      let flush = yes_flush e in
      subst (IsNextFlush T l n) (sym (ap (λ b. if b then number else after) (eq-eqb k l e) ∙ same))
      (first-here (IsFlushOf T l) (past_of T) n (omega (arith, within-flush T l (suc n) flush)) flush)
  | inr apart ↦ subst (IsNextFlush T l n) (sym (ap (λ b. if b then number else after) (ne_eqb k l apart))) (first-over (IsFlushOf T l) (past_of T) n after (no_flush apart) x)
]

-- back over an event
next-act : (T : Recording) (n l number after : ℕ) (a : Act) → number ≡ suc n → IsAct T (suc n) a → IsNextFlush T l (suc n) after → IsNextFlush T l n (next_before a number l after)
next-act T n l number after (Stores k w) same is x = first-over (IsFlushOf T l) (past_of T) n after (no_flush_of T l (suc n) (Stores k w) is (λ t e. cc) (λ e. cc)) x
next-act T n l number after (Flushes t k) same is x =
    here T n l number after k same (λ e. ByFlush t (subst (λ m. IsAct T (suc n) (Flushes t m)) e is)) (λ apart. no_flush_of T l (suc n) (Flushes t k) is (λ u e. apart (cc)) (λ e. cc)) x
next-act T n l number after (Clflushes k) same is x =
    here T n l number after k same (λ e. ByClflush (subst (λ m. IsAct T (suc n) (Clflushes m)) e is)) (λ apart. no_flush_of T l (suc n) (Clflushes k) is (λ u e. cc) (λ e. apart (cc))) x
next-act T n l number after (Fences t) same is x = first-over (IsFlushOf T l) (past_of T) n after (no_flush_of T l (suc n) (Fences t) is (λ u e. cc) (λ e. cc)) x
next-act T n l number after Asserts same is x = first-over (IsFlushOf T l) (past_of T) n after (no_flush_of T l (suc n) Asserts is (λ u e. cc) (λ e. cc)) x

pub flushes-back : (T : Recording) (n number : ℕ) (a : Act) (old new : Numbers) → number ≡ suc n → IsAct T (suc n) a →
    ((l : ℕ) → number_at (past_of T) new l ≡ next_before a number l (number_at (past_of T) old l)) → IsAheadOf T (suc n) old → IsAheadOf T n new
flushes-back T n number a old new same is noted x l = subst (IsNextFlush T l n) (sym (noted l)) (next-act T n l number (number_at (past_of T) old l) a same is (x l))

-- an event is on one line
pub on-store : (T : Recording) (l k i : ℕ) (w : Written) → IsAct T i (Stores k w) → IsOn T l i → k ≡ l
on-store T l k i w is (ByStore v at) = let same = act-unique T i (Stores k w) (Stores l v) is at in cc
on-store T l k i w is (ByFlushOf (ByFlush t at)) = let same = act-unique T i (Stores k w) (Flushes t l) is at in absurd (cc)
on-store T l k i w is (ByFlushOf (ByClflush at)) = let same = act-unique T i (Stores k w) (Clflushes l) is at in absurd (cc)

pub on-flush : (T : Recording) (l k t i : ℕ) → IsAct T i (Flushes t k) → IsOn T l i → k ≡ l
on-flush T l k t i is (ByStore v at) = let same = act-unique T i (Flushes t k) (Stores l v) is at in absurd (cc)
on-flush T l k t i is (ByFlushOf (ByFlush u at)) = let same = act-unique T i (Flushes t k) (Flushes u l) is at in cc
on-flush T l k t i is (ByFlushOf (ByClflush at)) = let same = act-unique T i (Flushes t k) (Clflushes l) is at in absurd (cc)

pub on-clflush : (T : Recording) (l k i : ℕ) → IsAct T i (Clflushes k) → IsOn T l i → k ≡ l
on-clflush T l k i is (ByStore v at) = let same = act-unique T i (Clflushes k) (Stores l v) is at in absurd (cc)
on-clflush T l k i is (ByFlushOf (ByFlush u at)) = let same = act-unique T i (Clflushes k) (Flushes u l) is at in absurd (cc)
on-clflush T l k i is (ByFlushOf (ByClflush at)) = let same = act-unique T i (Clflushes k) (Clflushes l) is at in cc

pub on-none : (T : Recording) (l i : ℕ) (a : Act) → IsAct T i a → ((k : ℕ) (w : Written) → a ≢ Stores k w) → ((t k : ℕ) → a ≢ Flushes t k) → ((k : ℕ) → a ≢ Clflushes k) → ¬ IsOn T l i
on-none T l i a is no_store no_flush no_clflush (ByStore v at) = no_store l v (act-unique T i a (Stores l v) is at)
on-none T l i a is no_store no_flush no_clflush (ByFlushOf (ByFlush u at)) = no_flush u l (act-unique T i a (Flushes u l) is at)
on-none T l i a is no_store no_flush no_clflush (ByFlushOf (ByClflush at)) = no_clflush l (act-unique T i a (Clflushes l) is at)

-- what is told of the event itself
pub next-told : (T : Recording) (n : ℕ) (a : Act) (flushes : Numbers) → IsAct T (suc n) a → IsAheadOf T (suc n) flushes → TellsNextFlush T (suc n) (next_in (past_of T) flushes a)
next-told T n (Stores k v) flushes is x l on = subst (λ m. IsNextFlush T l (suc n) (number_at (past_of T) flushes m)) (sym (on-store T l k (suc n) v is on)) (x l)
next-told T n (Flushes t k) flushes is x l on = subst (λ m. IsNextFlush T l (suc n) (number_at (past_of T) flushes m)) (sym (on-flush T l k t (suc n) is on)) (x l)
next-told T n (Clflushes k) flushes is x l on = subst (λ m. IsNextFlush T l (suc n) (number_at (past_of T) flushes m)) (sym (on-clflush T l k (suc n) is on)) (x l)
next-told T n (Fences t) flushes is x l on = absurd (on-none T l (suc n) (Fences t) is (λ k w e. cc) (λ u k e. cc) (λ k e. cc) on)
next-told T n Asserts flushes is x l on = absurd (on-none T l (suc n) Asserts is (λ k w e. cc) (λ u k e. cc) (λ k e. cc) on)

-- the next flush of an event of a line
pub next-on : (T : Recording) (list : List ℕ) (i l d : ℕ) → AreNextFlushes T list → IsOn T l i → IsNextFlush T l i (get_or list (i - 1) d)
next-on T list i l d are on =
    let within = inside on in
    let k = i - 1 in
    let short : k < length list = omega (arith, are.size, within) in
    let number : suc k ≡ i = omega (arith, within) in
    subst (λ j. TellsNextFlush T j (get_or list k d)) number (are.each k (get_or list k d) (slice_get-get_or list k d short)) l on
  where
    inside : IsOn T l i → (1 ≤ i) × (i ≤ length T.events)
    inside (ByStore w is) = act-within T i (Stores l w) is
    inside (ByFlushOf (ByFlush t is)) = act-within T i (Flushes t l) is
    inside (ByFlushOf (ByClflush is)) = act-within T i (Clflushes l) is
