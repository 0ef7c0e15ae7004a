-- A test for the events that are kept. It computes, so the kept list of a written-out trace is found by computation.
use Rattle.std.proofs.Common.{◌≡◌, ◌≢◌, ℕ, zero, suc, ◌+◌, ◌-◌, ◌<◌, ◌≤◌, ◌⊎◌, ◌==◌, ◌&&◌, ◌||◌, Bool, true, false, not, if◌then◌else◌, List, [], ◌∷◌, length, Option, Some, None, refl, sym, ◌∙◌, ap, subst, inl, inr, arith}
use Rattle.std.specs.Prelude.{nat_lt}
use Rattle.std.specs.Bool.{Decides}
use Rattle.std.proofs.lemmas.Bool.{cases_eq, both_ways, and_parts, and_from, or_cases, or_left, or_right, eqb-true, eq-eqb, ne_eqb, cond-false}
use Rattle.std.proofs.lemmas.Bool.Decides.{Decides-not, Decides-eqb, Decides-and, Decides-or, Decides-ltb, Decides-like, nat_tests}
use Rattle.std.proofs.lemmas.Option.{none-some, same_Some}
use Rattle.pmt_laws.specs.Prelude.{Event, Layout, Act, Stores, Flushes, Clflushes, Fences, count, Recording, act, event, IsAct, history, count_at, front_at, IsRising, Has}
use Rattle.pmt_model.specs.Keeping.{IsKept, Stays, ByFence, ByFlush, ByClflush, IsKeep}
use Rattle.pmt_laws.specs.ModelLaws.{KeepExists}
use Rattle.pmt_laws.proofs.Histories.{act-within, front-le-count, front-mono}

-- The act of an event, if there is one.
abbrev pub act_of_event : Layout → Option Event → Option Act
act_of_event f None = None
act_of_event f (Some e) = Some (act f e)

-- The act with this number, if there is one.
abbrev pub act_at : Recording → ℕ → Option Act
act_at T i = act_of_event T.format (event T i)

-- What the act with this number is.
act-there : (T : Recording) (i : ℕ) (a : Act) → act_at T i ≡ Some a → IsAct T i a
act-there T i a is = go (event T i) refl is
  where
    go : (o : Option Event) → event T i ≡ o → act_of_event T.format o ≡ Some a → IsAct T i a
    go None e h = absurd (none-some a h)
    go (Some x) e h = (x, e, same_Some (act T.format x) a h)

-- The act with this number is the one that is read off.
pub there-act : (T : Recording) (i : ℕ) (a : Act) → IsAct T i a → act_at T i ≡ Some a
there-act T i a is = ap (act_of_event T.format) is.1 ∙ ap (λ (b : Act). Some b) is.2

-- The act is a fence by the thread.
abbrev is_fence_of : ℕ → Option Act → Bool
is_fence_of t (Some (Fences u)) = u == t
is_fence_of t a = false

-- The act is a flush of the line by the thread.
abbrev is_flush_of : ℕ → ℕ → Option Act → Bool
is_flush_of t l (Some (Flushes u k)) = (u == t) && (k == l)
is_flush_of t l a = false

-- The test finds the fences of a thread.
Decides-fence : (T : Recording) (t i : ℕ) → Decides (is_fence_of t (act_at T i)) (IsAct T i (Fences t))
Decides-fence T t i = grind (arith, nat_tests, act-there, there-act, eq-eqb, eqb-true)

-- The test finds the flushes of a line by a thread.
Decides-flush : (T : Recording) (t l i : ℕ) → Decides (is_flush_of t l (act_at T i)) (IsAct T i (Flushes t l))
Decides-flush T t l i = grind (arith, nat_tests, act-there, there-act, and_from, eq-eqb, and_parts, eqb-true)

-- Of the m events after event n, a fence of the thread comes before any flush of the line by it, and the front just before that
-- fence is below c.
abbrev is_needed : Recording → ℕ → ℕ → ℕ → ℕ → ℕ → Bool
is_needed T t l c n zero = false
is_needed T t l c n (suc m) =
    let fence = is_fence_of t (act_at T (suc n)) in (fence && nat_lt (front_at T l n) c) || (not fence && (not (is_flush_of t l (act_at T (suc n))) && is_needed T t l c (suc n) m))

-- The fence that a flush of c stores after event n would be needed for.
pub record IsNeed (T : Recording) (t l c n : ℕ) : Type 0 where
  pub fence : ℕ
  pub later : n < fence
  pub is_fence : IsAct T fence (Fences t)
  pub next_fence : (k : ℕ) → n < k → k < fence → ¬ IsAct T k (Fences t)
  pub last_flush : (k : ℕ) → n < k → k < fence → ¬ IsAct T k (Flushes t l)
  pub needed : front_at T l (fence - 1) < c

-- A need right after event n.
need-now : (T : Recording) (t l c n : ℕ) → IsAct T (suc n) (Fences t) → front_at T l n < c → IsNeed T t l c n
need-now T t l c n is below = record {
  fence = suc n;
  later = omega arith;
  is_fence = is;
  next_fence = λ k after before at. absurd (omega arith);
  last_flush = λ k after before at. absurd (omega arith);
  needed = let e : n ≡ suc n - 1 = omega arith in let P : ℕ → Type 0 = λ k. front_at T l k < c in subst P e below;
}

-- A need after one more event, which is neither a fence nor a flush of this kind.
need-later : (T : Recording) (t l c n : ℕ) → ¬ IsAct T (suc n) (Fences t) → ¬ IsAct T (suc n) (Flushes t l) → IsNeed T t l c (suc n) → IsNeed T t l c n
need-later T t l c n no_fence no_flush need = record {
  fence = need.fence;
  later = let after : suc n < need.fence = need.later in omega arith;
  is_fence = need.is_fence;
  next_fence = λ k after before at. go (Fences t) no_fence k after at (λ more. need.next_fence k more before at);
  last_flush = λ k after before at. go (Flushes t l) no_flush k after at (λ more. need.last_flush k more before at);
  needed = need.needed;
}
  where
    go : (a : Act) → ¬ IsAct T (suc n) a → (k : ℕ) → n < k → IsAct T k a → (suc n < k → ⊥) → ⊥
    go a none k after at rest = by_place (cases_eq k (suc n))
      where
        by_place : (k ≡ suc n) ⊎ (k ≡ suc n → ⊥) → ⊥
        by_place (inl e) = let P : ℕ → Type 0 = λ j. IsAct T j a in none (subst P e at)
        by_place (inr apart) = rest (omega arith)

-- A need that is not met by the next event is one after it.
need-rest : (T : Recording) (t l c n : ℕ) → ¬ IsAct T (suc n) (Fences t) → (need : IsNeed T t l c n) → IsNeed T t l c (suc n)
need-rest T t l c n no_fence need = record {
  fence = need.fence;
  later = go (cases_eq need.fence (suc n));
  is_fence = need.is_fence;
  next_fence = λ k after before at. need.next_fence k (omega arith) before at;
  last_flush = λ k after before at. need.last_flush k (omega arith) before at;
  needed = need.needed;
}
  where
    go : (need.fence ≡ suc n) ⊎ (need.fence ≡ suc n → ⊥) → suc n < need.fence
    go (inl e) = let P : ℕ → Type 0 = λ j. IsAct T j (Fences t) in absurd (no_fence (subst P e need.is_fence))
    go (inr apart) = let after : n < need.fence = need.later in omega arith

-- The next event meets a need, or leaves it.
abbrev MeetsOrLeaves : Recording → ℕ → ℕ → ℕ → ℕ → Type 0
MeetsOrLeaves T t l c n =
    (IsAct T (suc n) (Fences t) × (front_at T l n < c)) ⊎ (¬ IsAct T (suc n) (Fences t) × (¬ IsAct T (suc n) (Flushes t l) × IsNeed T t l c (suc n)))

need-from : (T : Recording) (t l c n : ℕ) → MeetsOrLeaves T t l c n → IsNeed T t l c n
need-from T t l c n (inl now) = need-now T t l c n now.0 now.1
need-from T t l c n (inr later) = need-later T t l c n later.0 later.1.0 later.1.1

need-cases : (T : Recording) (t l c n : ℕ) → IsNeed T t l c n → MeetsOrLeaves T t l c n
need-cases T t l c n need = go (cases_eq need.fence (suc n))
  where
    go : (need.fence ≡ suc n) ⊎ (need.fence ≡ suc n → ⊥) → MeetsOrLeaves T t l c n
    go (inl e) =
        let before : need.fence - 1 ≡ n = omega (arith, e) in
        let P : ℕ → Type 0 = λ j. IsAct T j (Fences t) in
        let Q : ℕ → Type 0 = λ k. front_at T l k < c in
        inl (subst P e need.is_fence, subst Q before need.needed)
    go (inr apart) =
        let after : n < need.fence = need.later in
        let no_fence = need.next_fence (suc n) (omega arith) (omega arith) in
        inr (no_fence, (need.last_flush (suc n) (omega arith) (omega arith), need-rest T t l c n no_fence need))

-- The test of all later events finds a need.
Decides-needed : (T : Recording) (t l c n m : ℕ) → length T.events ≤ n + m → Decides (is_needed T t l c n m) (IsNeed T t l c n)
Decides-needed T t l c n zero all = (λ e. cc, λ need. absurd (omega (arith, need.later, (act-within T need.fence (Fences t) need.is_fence).1)))
Decides-needed T t l c n (suc m) all =
    let fence = is_fence_of t (act_at T (suc n)) in
    let flush = is_flush_of t l (act_at T (suc n)) in
    let more = is_needed T t l c (suc n) m in
    let rest = Decides-and (not flush) more (Decides-not flush (Decides-flush T t l (suc n))) (Decides-needed T t l c (suc n) m (omega arith)) in
    Decides-like (is_needed T t l c n (suc m)) (need-from T t l c n) (need-cases T t l c n)
    (Decides-or (fence && nat_lt (front_at T l n) c) (not fence && (not flush && more))
    (Decides-and fence (nat_lt (front_at T l n) c) (Decides-fence T t (suc n)) (Decides-ltb (front_at T l n) c))
    (Decides-and (not fence) (not flush && more) (Decides-not fence (Decides-fence T t (suc n))) rest))

-- The front of the line differs before and after event i.
abbrev differs : Recording → ℕ → ℕ → Bool
differs T l i = not (front_at T l i == front_at T l (i - 1))

-- The front of some line that is stored in the history differs before and after event i.
abbrev some_differs : Recording → ℕ → List Act → Bool
some_differs T i [] = false
some_differs T i (Stores l w ∷ h) = differs T l i || some_differs T i h
some_differs T i (a ∷ h) = some_differs T i h

-- The test finds the lines whose front differs.
Decides-differs : (T : Recording) (l i : ℕ) → Decides (differs T l i) (front_at T l i ≢ front_at T l (i - 1))
Decides-differs T l i = Decides-not (front_at T l i == front_at T l (i - 1)) (Decides-eqb (front_at T l i) (front_at T l (i - 1)))

-- Where the test passes some line's front differs.
some_differs-tells : (T : Recording) (i : ℕ) (h : List Act) → some_differs T i h ≡ true → (l : ℕ) × (front_at T l i ≢ front_at T l (i - 1))
some_differs-tells T i [] e = cc
some_differs-tells T i (Stores l w ∷ h) e = grind (arith, nat_tests, or_cases, Decides-differs, some_differs-tells T i h)
some_differs-tells T i (a ∷ h) e = some_differs-tells T i h e

-- A stored line whose front differs is found.
tells-some_differs : (T : Recording) (l i : ℕ) (h : List Act) → 0 < count l h → front_at T l i ≢ front_at T l (i - 1) → some_differs T i h ≡ true
tells-some_differs T l i [] some apart = absurd (omega arith)
tells-some_differs T l i (Stores k w ∷ h) some apart = go (λ more. tells-some_differs T l i h more apart) (cases_eq k l)
  where
    go : (0 < count l h → some_differs T i h ≡ true) → (k ≡ l) ⊎ (k ≡ l → ⊥) → some_differs T i (Stores k w ∷ h) ≡ true
    go rest (inl e) = or_left (differs T k i) (some_differs T i h) (ap (λ (j : ℕ). differs T j i) e ∙ (Decides-differs T l i).1 apart)
    go rest (inr other) =
        let same = cond-false (k == l) (suc (count l h)) (count l h) (ne_eqb k l other) in
        or_right (differs T k i) (some_differs T i h) (rest (omega (arith, same)))
tells-some_differs T l i (a ∷ h) some apart = tells-some_differs T l i h some apart

-- The act with number i of the trace is kept.
abbrev keeps_act : Recording → ℕ → Option Act → Bool
keeps_act T i None = false
keeps_act T i (Some (Flushes t l)) = is_needed T t l (count_at T l i) i (length T.events)
keeps_act T i (Some (Clflushes l)) = differs T l i
keeps_act T i (Some (Fences t)) = some_differs T i (history T i)
keeps_act T i (Some a) = true

-- Event i is kept.
abbrev is_kept : Recording → ℕ → Bool
is_kept T i = keeps_act T i (act_at T i)

-- A front that differs is of a line with stores.
differs-stored : (T : Recording) (l i : ℕ) → front_at T l i ≢ front_at T l (i - 1) → 0 < count_at T l i
differs-stored T l i apart =
    let below : front_at T l (i - 1) ≤ front_at T l i = front-mono T l (i - 1) i (omega arith) in
    let within : front_at T l i ≤ count_at T l i = front-le-count l (history T i) in
    omega (arith, apart)

-- What the test of an act finds is kept.
keeps_act-tells : (T : Recording) (i : ℕ) (o : Option Act) → act_at T i ≡ o → keeps_act T i o ≡ true → IsKept T i
keeps_act-tells T i None is e = cc
keeps_act-tells T i (Some (Flushes t l)) is e =
    let need = (Decides-needed T t l (count_at T l i) i (length T.events) (omega arith)).0 e in
    ByFlush
    (record {
      thread = t;
      line = l;
      fence = need.fence;
      is_flush = act-there T i (Flushes t l) is;
      is_fence = need.is_fence;
      later = need.later;
      next_fence = need.next_fence;
      last_flush = need.last_flush;
      needed = need.needed;
    })
keeps_act-tells T i (Some (Clflushes l)) is e =
    ByClflush (record { line = l; is_clflush = act-there T i (Clflushes l) is; raises = (Decides-differs T l i).0 e })
keeps_act-tells T i (Some (Fences t)) is e =
    let found = some_differs-tells T i (history T i) e in
    ByFence (record { thread = t; line = found.0; is_fence = act-there T i (Fences t) is; raises = found.1 })
keeps_act-tells T i (Some a) is e = Stays a (act-there T i a is) refl

-- What is kept passes the test.
tells-is_kept : (T : Recording) (i : ℕ) → IsKept T i → is_kept T i ≡ true
tells-is_kept T i (Stays a is stays) = grind (arith, nat_tests, there-act)
tells-is_kept T i (ByFence u) =
    ap (keeps_act T i) (there-act T i (Fences u.thread) u.is_fence)
    ∙ tells-some_differs T u.line i (history T i) (differs-stored T u.line i u.raises) u.raises
tells-is_kept T i (ByFlush u) =
    ap (keeps_act T i) (there-act T i (Flushes u.thread u.line) u.is_flush)
    ∙ (Decides-needed T u.thread u.line (count_at T u.line i) i (length T.events) (omega arith)).1
    (record { fence = u.fence; later = u.later; is_fence = u.is_fence; next_fence = u.next_fence; last_flush = u.last_flush; needed = u.needed })
tells-is_kept T i (ByClflush u) = ap (keeps_act T i) (there-act T i (Clflushes u.line) u.is_clflush) ∙ (Decides-differs T u.line i).1 u.raises

-- The test finds the events that are kept.
pub Decides-kept : (T : Recording) (i : ℕ) → Decides (is_kept T i) (IsKept T i)
Decides-kept T i = (keeps_act-tells T i (act_at T i) refl, tells-is_kept T i)

-- The events that are kept among the m after event n.
abbrev pub kept_among : Recording → ℕ → ℕ → List ℕ
kept_among T n zero = []
kept_among T n (suc m) = if is_kept T (suc n) then suc n ∷ kept_among T (suc n) m else kept_among T (suc n) m

-- The numbers of the events that are kept.
abbrev pub kept_numbers : Recording → List ℕ
kept_numbers T = kept_among T 0 (length T.events)

-- Rising numbers also rise from further below.
rising-below : (low high : ℕ) (K : List ℕ) → low ≤ high → IsRising high K → IsRising low K
rising-below low high [] le r = tt
rising-below low high (k ∷ ks) le r = let above : high < k = r.0 in (omega arith, r.1)

-- The numbers that pass the test rise.
among-rising : (T : Recording) (n m : ℕ) → IsRising n (kept_among T n m)
among-rising T n zero = tt
among-rising T n (suc m) = go (is_kept T (suc n)) (among-rising T (suc n) m)
  where
    go : (b : Bool) → IsRising (suc n) (kept_among T (suc n) m) → IsRising n (if b then suc n ∷ kept_among T (suc n) m else kept_among T (suc n) m)
    go true r = (omega arith, r)
    go false r = rising-below n (suc n) (kept_among T (suc n) m) (omega arith) r

-- Each of the numbers passes the test.
among-kept : (T : Recording) (n m i : ℕ) → Has (kept_among T n m) i → is_kept T i ≡ true
among-kept T n zero i h = absurd h
among-kept T n (suc m) i h = go (is_kept T (suc n)) refl (among-kept T (suc n) m i) h
  where
    go : (b : Bool) → is_kept T (suc n) ≡ b → (Has (kept_among T (suc n) m) i → is_kept T i ≡ true) →
        Has (if b then suc n ∷ kept_among T (suc n) m else kept_among T (suc n) m) i → is_kept T i ≡ true
    go true e rest (inl same) = let P : ℕ → Type 0 = λ j. is_kept T j ≡ true in subst P same e
    go true e rest (inr later) = rest later
    go false e rest later = rest later

-- What passes the test among the m events after event n is one of the numbers.
kept-among : (T : Recording) (n m i : ℕ) → n < i → i ≤ n + m → is_kept T i ≡ true → Has (kept_among T n m) i
kept-among T n zero i after within e = absurd (omega arith)
kept-among T n (suc m) i after within e = go (is_kept T (suc n)) refl (λ more. kept-among T (suc n) m i more (omega arith) e) (cases_eq (suc n) i)
  where
    go : (b : Bool) → is_kept T (suc n) ≡ b → (suc n < i → Has (kept_among T (suc n) m) i) → (suc n ≡ i) ⊎ (suc n ≡ i → ⊥) →
        Has (if b then suc n ∷ kept_among T (suc n) m else kept_among T (suc n) m) i
    go true is rest (inl same) = inl same
    go true is rest (inr apart) = inr (rest (omega arith))
    go false is rest (inl same) = let P : ℕ → Type 0 = λ j. is_kept T j ≡ true in absurd (both_ways (is_kept T (suc n)) is (subst P (sym same) e))
    go false is rest (inr apart) = rest (omega arith)

-- What is kept is an event.
kept-event : (T : Recording) (i : ℕ) → IsKept T i → (1 ≤ i) × (i ≤ length T.events)
kept-event T i (Stays a is stays) = act-within T i a is
kept-event T i (ByFence u) = act-within T i (Fences u.thread) u.is_fence
kept-event T i (ByFlush u) = act-within T i (Flushes u.thread u.line) u.is_flush
kept-event T i (ByClflush u) = act-within T i (Clflushes u.line) u.is_clflush

-- The numbers that pass the test are the list of the events that are kept.
pub keep-kept_numbers : (T : Recording) → IsKeep T (kept_numbers T)
keep-kept_numbers T = record {
  rising = among-rising T 0 (length T.events);
  just = λ i. (
    λ has. (Decides-kept T i).0 (among-kept T 0 (length T.events) i has),
    λ kept. let within = kept-event T i kept in kept-among T 0 (length T.events) i (omega arith) (omega arith) (tells-is_kept T i kept),
  );
}

-- Each trace has a list of the events that are kept.
pub keep_exists : KeepExists
keep_exists T = (kept_numbers T, keep-kept_numbers T)
