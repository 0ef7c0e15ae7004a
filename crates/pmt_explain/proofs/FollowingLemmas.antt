-- What comes after a place, as events are read from the last to the first.
use Rattle.std.proofs.Common.{◌≡◌, ◌≢◌, ℕ, suc, ◌<◌, ◌≤◌, ◌⊎◌, inl, inr, min, List, [], length, Some, refl, sym, ap, subst, ◌∙◌, arith, get_or, set, get_or-set_same, get_or-set_other}
use Rattle.std.specs.Prelude.{replicate, slice_get}
use Rattle.std.proofs.lemmas.Option.{slice_get-get_or, get_or_from_slice_get, slice_get_within}
use Rattle.std.proofs.lemmas.Bool.{cases_lt, cases_eq}
use Rattle.std.proofs.lemmas.List.{length-set, get_or-replicate, length-replicate}
use Rattle.pmt_laws.specs.Prelude.{Act, Stores, Flushes, Clflushes, Fences, Asserts, Event, Layout, Written, Recording, IsAct, act_of}
use Rattle.pmt_laws.proofs.Histories.{act-unique, act-within}
use Rattle.pmt_explain.specs.declared.ahead.Ahead.{Ahead}
use Rattle.pmt_explain.specs.Numbers.{Numbers, number_at, Puts}
use Rattle.pmt_explain.specs.Following.{IsFirst, past_of, IsFenceAfter, IsCompleteBy, ByFence, ByItself, IsCompletedAfter, IsAhead}
use Rattle.pmt_explain.proofs.FirstLemmas.{first-same, first-either, first-none, first-here, first-over}

-- what flushes a line
pub flushes-act : (T : Recording) (l i p : ℕ) (a : Act) → IsAct T i a → IsCompleteBy T l i p → ((t : ℕ) × (a ≡ Flushes t l)) ⊎ (a ≡ Clflushes l)
flushes-act T l i p a is (ByFence t fence flush f later by_now) = inl (t, act-unique T i a (Flushes t l) is flush)
flushes-act T l i p a is (ByItself flush by_now) = inr (act-unique T i a (Clflushes l) is flush)

-- the flushes of a line after an event that is none of them
completed-over : (T : Recording) (l n past first : ℕ) (a : Act) → IsAct T (suc n) a → ((t : ℕ) → a ≢ Flushes t l) → a ≢ Clflushes l → IsFirst (IsCompletedAfter T l (suc n)) past first →
    IsFirst (IsCompletedAfter T l n) past first
completed-over T l n past first a is no_flush no_clflush x =
    first-same (IsCompletedAfter T l (suc n)) (IsCompletedAfter T l n) past first (λ p c. (c.0, omega (arith, c.1), c.2)) (λ p c. (c.0, later p c (cases_lt (suc n) c.0), c.2)) x
  where
    later : (p : ℕ) → (c : IsCompletedAfter T l n p) → (suc n < c.0) ⊎ (c.0 ≤ suc n) → suc n < c.0
    later p c (inl after) = after
    later p c (inr here) =
        let e : c.0 ≡ suc n = omega (arith, c.1) in
        absurd (elim (flushes-act T l (suc n) p a is (subst (λ i. IsCompleteBy T l i p) e c.2)) [ inl f ↦ no_flush f.0 f.1 | inr f ↦ no_clflush f ])

-- a flush is complete from the next fence of its thread on
pub own-flush : (T : Recording) (t l i past fence : ℕ) → IsAct T i (Flushes t l) → IsFirst (IsFenceAfter T t i) past fence → IsFirst (IsCompleteBy T l i) past fence
own-flush T t l i past fence is next = record {
  within = next.within;
  has = λ h. let x = next.has h in ByFence t fence is x.1 x.0 (omega arith);
  none_before = λ p below c. early p below c;
}
  where
    early : (p : ℕ) → p < fence → IsCompleteBy T l i p → ⊥
    early p below (ByFence u j flush f later by_now) =
        let same = act-unique T i (Flushes u l) (Flushes t l) flush is in
        let thread : u ≡ t = cc in
        next.none_before j (omega arith) (later, subst (λ v. IsAct T j (Fences v)) thread f)
    early p below (ByItself flush by_now) = let same = act-unique T i (Clflushes l) (Flushes t l) flush is in cc

-- after a flush of the line
completed-flush : (T : Recording) (t l n past fence first : ℕ) → IsAct T (suc n) (Flushes t l) → IsFirst (IsFenceAfter T t (suc n)) past fence →
    IsFirst (IsCompletedAfter T l (suc n)) past first → IsFirst (IsCompletedAfter T l n) past (min first fence)
completed-flush T t l n past fence first is next x =
    first-either (IsCompletedAfter T l (suc n)) (IsCompleteBy T l (suc n)) (IsCompletedAfter T l n) past first fence (λ p c. (c.0, omega (arith, c.1), c.2))
    (λ p c. (suc n, omega arith, c)) (λ p c. split p c (cases_lt (suc n) c.0)) x (own-flush T t l (suc n) past fence is next)
  where
    split : (p : ℕ) → (c : IsCompletedAfter T l n p) → (suc n < c.0) ⊎ (c.0 ≤ suc n) → IsCompletedAfter T l (suc n) p ⊎ IsCompleteBy T l (suc n) p
    split p c (inl after) = inl (c.0, after, c.2)
    split p c (inr here) = let e : c.0 ≡ suc n = omega (arith, c.1) in inr (subst (λ i. IsCompleteBy T l i p) e c.2)

-- after a clflush of the line
completed-clflush : (T : Recording) (l n : ℕ) → IsAct T (suc n) (Clflushes l) → IsFirst (IsCompletedAfter T l n) (past_of T) (suc n)
completed-clflush T l n is = record {
  within = omega (arith, (act-within T (suc n) (Clflushes l) is).1);
  has = λ h. (suc n, omega arith, ByItself is (omega arith));
  none_before = λ p below c. early p below c.0 c.1 c.2;
}
  where
    early : (p : ℕ) → p < suc n → (i : ℕ) → n < i → IsCompleteBy T l i p → ⊥
    early p below i after (ByFence t j flush f later by_now) = absurd (omega arith)
    early p below i after (ByItself flush by_now) = absurd (omega arith)

-- before any event is read
pub ahead-start : (T : Recording) (a : Ahead) → a.past ≡ past_of T → a.fences ≡ replicate 256 a.past → a.completed ≡ [] → IsAhead T (length T.events) a
ahead-start T a past fences completed = record {
  past = past;
  threads = ap (λ xs. length xs) fences ∙ length-replicate 256 a.past;
  fences = λ t small.
      subst (IsFirst (IsFenceAfter T t (length T.events)) (past_of T)) (sym (fence t small))
      (first-none (IsFenceAfter T t (length T.events)) (past_of T) (λ k f. absurd (omega (arith, f.0, (act-within T k (Fences t) f.1).1))));
  completed = λ l.
      let value : number_at (past_of T) a.completed l ≡ past_of T = rw completed refl in
      subst (IsFirst (IsCompletedAfter T l (length T.events)) (past_of T)) (sym value) (first-none (IsCompletedAfter T l (length T.events)) (past_of T) (λ p c. early p c.0 c.1 c.2));
}
  where
    fence : (t : ℕ) → t < 256 → get_or a.fences t 0 ≡ past_of T
    fence t small = ap (λ xs. get_or xs t 0) fences ∙ get_or-replicate 256 t a.past 0 small ∙ past

    early : {l : ℕ} (p i : ℕ) → length T.events < i → IsCompleteBy T l i p → ⊥
    early {l} p i after (ByFence t j flush f later by_now) = absurd (omega (arith, (act-within T i (Flushes t l) flush).1))
    early {l} p i after (ByItself flush by_now) = absurd (omega (arith, (act-within T i (Clflushes l) flush).1))

-- over an act that is neither a flush nor a fence
pub ahead-other : (T : Recording) (n : ℕ) (a : Ahead) (x : Act) → IsAct T (suc n) x → ((t l : ℕ) → x ≢ Flushes t l) → ((l : ℕ) → x ≢ Clflushes l) → ((t : ℕ) → x ≢ Fences t) → IsAhead T (suc n) a →
    IsAhead T n a
ahead-other T n a x is no_flush no_clflush no_fence old = record {
  past = old.past;
  threads = old.threads;
  fences = λ t small. first-over (λ k. IsAct T k (Fences t)) (past_of T) n _ (λ f. no_fence t (act-unique T (suc n) x (Fences t) is f)) (old.fences t small);
  completed = λ l. completed-over T l n (past_of T) _ x is (λ t. no_flush t l) (no_clflush l) (old.completed l);
}

-- after a store
pub ahead-store : (T : Recording) (n : ℕ) (a : Ahead) (l : ℕ) (w : Written) → IsAct T (suc n) (Stores l w) → IsAhead T (suc n) a → IsAhead T n a
ahead-store T n a l w is = ahead-other T n a (Stores l w) is (λ t k e. cc) (λ k e. cc) (λ t e. cc)

-- after an assertion
pub ahead-assert : (T : Recording) (n : ℕ) (a : Ahead) → IsAct T (suc n) Asserts → IsAhead T (suc n) a → IsAhead T n a
ahead-assert T n a is = ahead-other T n a Asserts is (λ t k e. cc) (λ k e. cc) (λ t e. cc)

-- the next fences, after a fence
pub next-fence : (T : Recording) (n t number : ℕ) (fences : List ℕ) → t < 256 → IsAct T (suc n) (Fences t) → number ≡ suc n → length fences ≡ 256 →
    ((u : ℕ) → u < 256 → IsFirst (IsFenceAfter T u (suc n)) (past_of T) (get_or fences u 0)) → (u : ℕ) → u < 256 → IsFirst (IsFenceAfter T u n) (past_of T) (get_or (set fences t number) u 0)
next-fence T n t number fences small is same threads old u below = go (cases_eq u t)
  where
    go : (u ≡ t) ⊎ (u ≢ t) → IsFirst (IsFenceAfter T u n) (past_of T) (get_or (set fences t number) u 0)
    go (inl e) =
        let own : get_or (set fences t number) u 0 ≡ suc n = ap (λ k. get_or (set fences t number) k 0) e ∙ get_or-set_same fences t number 0 (omega (arith, threads)) ∙ same in
        subst (IsFirst (IsFenceAfter T u n) (past_of T)) (sym own)
        (first-here (λ k. IsAct T k (Fences u)) (past_of T) n (omega (arith, (act-within T (suc n) (Fences t) is).1)) (subst (λ v. IsAct T (suc n) (Fences v)) (sym e) is))
    go (inr apart) =
        subst (IsFirst (IsFenceAfter T u n) (past_of T)) (sym (get_or-set_other fences t u number 0 apart))
        (first-over (λ k. IsAct T k (Fences u)) (past_of T) n _ (λ f. let e = act-unique T (suc n) (Fences t) (Fences u) is f in apart (cc)) (old u below))

-- over a fence
pub ahead-fence : (T : Recording) (n t number : ℕ) (a b : Ahead) → t < 256 → IsAct T (suc n) (Fences t) → number ≡ suc n → IsAhead T (suc n) a →
    b.past ≡ a.past → b.fences ≡ set a.fences t number → b.completed ≡ a.completed → IsAhead T n b
ahead-fence T n t number a b small is same old past fences completed = record {
  past = past ∙ old.past;
  threads = ap (λ xs. length xs) fences ∙ length-set a.fences t number ∙ old.threads;
  fences = λ u below. rw fences (next-fence T n t number a.fences small is same old.threads old.fences u below);
  completed = λ l. rw completed (completed-over T l n (past_of T) _ (Fences t) is (λ u e. cc) (λ e. cc) (old.completed l));
}

-- over a clflush
pub ahead-clflush : (T : Recording) (n l number : ℕ) (a : Ahead) (completed : Numbers) → IsAct T (suc n) (Clflushes l) → number ≡ suc n → IsAhead T (suc n) a → Puts l number a.completed completed →
    IsAhead T n (record { past = a.past; fences = a.fences; completed = completed })
ahead-clflush T n l number a completed is same old put = record {
  past = old.past;
  threads = old.threads;
  fences = λ t small. first-over (λ k. IsAct T k (Fences t)) (past_of T) n _ (λ f. let e = act-unique T (suc n) (Clflushes l) (Fences t) is f in cc) (old.fences t small);
  completed = λ k. elim (cases_eq k l) [
    | inl e ↦
        let value : number_at (past_of T) completed k ≡ suc n = ap (number_at (past_of T) completed) e ∙ put.here (past_of T) ∙ same in
        subst (IsFirst (IsCompletedAfter T k n) (past_of T)) (sym value) (completed-clflush T k n (subst (λ j. IsAct T (suc n) (Clflushes j)) (sym e) is))
    | inr apart ↦
        subst (IsFirst (IsCompletedAfter T k n) (past_of T)) (sym (put.others (past_of T) k apart))
        (completed-over T k n (past_of T) _ (Clflushes l) is (λ t e. cc) (λ e. apart (cc)) (old.completed k))
  ];
}

-- over a flush
pub ahead-flush : (T : Recording) (n t l first : ℕ) (a : Ahead) (completed : Numbers) → t < 256 → IsAct T (suc n) (Flushes t l) → IsAhead T (suc n) a → first ≡ number_at (past_of T) a.completed l →
    Puts l (min first (get_or a.fences t 0)) a.completed completed → IsAhead T n (record { past = a.past; fences = a.fences; completed = completed })
ahead-flush T n t l first a completed small is old so_far put = record {
  past = old.past;
  threads = old.threads;
  fences = λ u below. first-over (λ k. IsAct T k (Fences u)) (past_of T) n _ (λ f. let e = act-unique T (suc n) (Flushes t l) (Fences u) is f in cc) (old.fences u below);
  completed = λ k. elim (cases_eq k l) [
    | inl e ↦
        let value : number_at (past_of T) completed k ≡ min first (get_or a.fences t 0) = ap (number_at (past_of T) completed) e ∙ put.here (past_of T) in
        subst (IsFirst (IsCompletedAfter T k n) (past_of T)) (sym value)
        (completed-flush T t k n (past_of T) (get_or a.fences t 0) first (subst (λ j. IsAct T (suc n) (Flushes t j)) (sym e) is) (old.fences t small)
        (subst (IsFirst (IsCompletedAfter T k (suc n)) (past_of T)) (ap (number_at (past_of T) a.completed) e ∙ sym so_far) (old.completed k)))
    | inr apart ↦
        subst (IsFirst (IsCompletedAfter T k n) (past_of T)) (sym (put.others (past_of T) k apart))
        (completed-over T k n (past_of T) _ (Flushes t l) is (λ u e. apart (cc)) (λ e. cc) (old.completed k))
  ];
}

-- the event at an index
pub event-at : (T : Recording) (f : Layout) (es : List Event) (i : ℕ) (e : Event) → f ≡ T.format → es ≡ T.events → i < length es → e ≡ get_or es i e → IsAct T (suc i) (act_of f e.thread e.op)
event-at T f es i e format events within is =
    (e, ap (λ xs. slice_get xs i) (sym events) ∙ slice_get-get_or es i e within ∙ ap Some (sym is), ap (λ g. act_of g e.thread e.op) (sym format))

-- what a list tells of each event, the first one being event 1, with one more
pub told-set : {A : Type 0} (Tells : ℕ → A → Type 0) (list : List A) (i n : ℕ) (x f : A) → i < length list → Tells (suc i) x →
    ((m : ℕ) (g : A) → suc i ≤ m → slice_get list m ≡ Some g → Tells (suc m) g) → i ≤ n → slice_get (set list i x) n ≡ Some f → Tells (suc n) f
told-set Tells list i n x f within tells rest from is = go (cases_eq n i)
  where
    value : get_or (set list i x) n x ≡ f
    value = get_or_from_slice_get (set list i x) n f x is

    inside : n < length list
    inside = omega (arith, slice_get_within (set list i x) n f is, length-set list i x)

    go : (n ≡ i) ⊎ (n ≢ i) → Tells (suc n) f
    go (inl e) =
        let found : x ≡ f = sym (get_or-set_same list i x x within) ∙ ap (λ k. get_or (set list i x) k x) (sym e) ∙ value in
        subst (λ k. Tells (suc k) f) (sym e) (subst (Tells (suc i)) found tells)
    go (inr apart) = rest n f (omega arith) (slice_get-get_or list n x inside ∙ ap Some (sym (get_or-set_other list i n x x apart) ∙ value))
