-- How many events are kept: each is so for one event, itself or the fence that needs it, and each event has its count of them.
use Rattle.std.proofs.Common.{◌≡◌, ◌≢◌, ℕ, zero, suc, ◌+◌, ◌-◌, ◌<◌, ◌≤◌, ◌⊎◌, inl, inr, max, Bool, true, false, List, [], ◌∷◌, ◌==◌, length, refl, sym, ap, ◌∙◌, subst, arith, le_antisymm, eqb-true, true≢false}
use Rattle.std.proofs.lemmas.Bool.{eqb-false, cases_lt}
use Rattle.std.specs.Prelude.{not}
use Rattle.pmt_laws.specs.Prelude.{Act, Stores, Flushes, Clflushes, Fences, Asserts, Recording, IsAct, history, has_line, lines_of, count_at, front, mark, front_at, Has, always_stays, IsUsefulFlush, IsKept}
use Rattle.pmt_model.specs.Keeping.IsKept.{Stays, ByFence, ByFlush, ByClflush}
use Rattle.pmt_laws.proofs.Histories.{act-unique, act-within, history-act, history-step, length-history, front-mono}
use Rattle.pmt_laws.proofs.KeepLemmas.{front-at_fence, raising-is-kept}
use Rattle.pmt_laws.proofs.LastFlushes.{IsLastFlush, last-flush}
use Rattle.pmt_laws.proofs.ShortestPairs.{not_later}
use Rattle.pmt_taking.proofs.AppearLemmas.{IsOnLine, appears}
use Rattle.pmt_trimming.specs.Passing.{raised, counts, all_counts, kept_count, KeepIsCounted}
use Rattle.pmt_trimming.proofs.Listings.{Distinct, Listing, rising-distinct, same-size, none-listed, one-listed, both-listed, listed-as, lines-distinct, distinct-filter, filter-keeps, filter-has, has-from_line}

-- Event k is kept for event j: for itself, or it is a flush that fence j needs.
data Owner (T : Recording) (j k : ℕ) : Type 0 where
  Itself : ((t l : ℕ) → IsAct T k (Flushes t l) → ⊥) → IsKept T k → j ≡ k → Owner T j k
  Needs : (u : IsUsefulFlush T k) → u.fence ≡ j → Owner T j k

owned-kept : (T : Recording) (j k : ℕ) → Owner T j k → IsKept T k
owned-kept T j k (Itself none kept e) = kept
owned-kept T j k (Needs u e) = ByFlush u

no-flush : (T : Recording) (k : ℕ) (a : Act) → IsAct T k a → ((t l : ℕ) → a ≢ Flushes t l) → (t l : ℕ) → IsAct T k (Flushes t l) → ⊥
no-flush T k a is other t l flush = other t l (act-unique T k a (Flushes t l) is flush)

-- each kept event is so for some event of the trace
kept-owned : (T : Recording) (k : ℕ) → IsKept T k → (j : ℕ) × (j ≤ length T.events) × Owner T j k
kept-owned T k (Stays a is stays) =
    (k, (act-within T k a is).1, Itself (no-flush T k a is (λ t l e. true≢false (sym stays ∙ ap always_stays e))) (Stays a is stays) refl)
kept-owned T k (ByFence u) =
    (k, (act-within T k (Fences u.thread) u.is_fence).1, Itself (no-flush T k (Fences u.thread) u.is_fence (λ t l e. cc)) (ByFence u) refl)
kept-owned T k (ByFlush u) = (u.fence, (act-within T u.fence (Fences u.thread) u.is_fence).1, Needs u refl)
kept-owned T k (ByClflush u) =
    (k, (act-within T k (Clflushes u.line) u.is_clflush).1, Itself (no-flush T k (Clflushes u.line) u.is_clflush (λ t l e. cc)) (ByClflush u) refl)

-- a flush is needed by one fence
next-le : (T : Recording) (k : ℕ) (u v : IsUsefulFlush T k) → u.thread ≡ v.thread → u.fence ≤ v.fence
next-le T k u v same = not_later _ _ (λ less. u.next_fence v.fence v.later less (subst (λ t. IsAct T v.fence (Fences t)) (sym same) v.is_fence))

same-thread : (T : Recording) (k : ℕ) (u v : IsUsefulFlush T k) → u.thread ≡ v.thread
same-thread T k u v = let act : Flushes u.thread u.line ≡ Flushes v.thread v.line = act-unique T k (Flushes u.thread u.line) (Flushes v.thread v.line) u.is_flush v.is_flush in cc

same-line : (T : Recording) (k : ℕ) (u v : IsUsefulFlush T k) → u.line ≡ v.line
same-line T k u v = let act : Flushes u.thread u.line ≡ Flushes v.thread v.line = act-unique T k (Flushes u.thread u.line) (Flushes v.thread v.line) u.is_flush v.is_flush in cc

one-owner : (T : Recording) (i j k : ℕ) → Owner T i k → Owner T j k → i ≡ j
one-owner T i j k (Itself none kept e) (Itself other same d) = e ∙ sym d
one-owner T i j k (Itself none kept e) (Needs u d) = absurd (none u.thread u.line u.is_flush)
one-owner T i j k (Needs u e) (Itself none kept d) = absurd (none u.thread u.line u.is_flush)
one-owner T i j k (Needs u e) (Needs v d) =
    let thread : u.thread ≡ v.thread = same-thread T k u v in
    let fence : u.fence ≡ v.fence = le_antisymm (next-le T k u v thread) (next-le T k v u (sym thread)) in
    sym e ∙ fence ∙ d

no-acts : (h : List Act) → length h ≡ 0 → h ≡ []
no-acts [] e = refl
no-acts (a ∷ h) e = absurd (omega (arith, e))

-- two acts at one number are the same
no-act : (T : Recording) (i : ℕ) (a b : Act) → IsAct T i a → IsAct T i b → (a ≡ b → ⊥) → ⊥
no-act T i a b x y other = other (act-unique T i a b x y)

-- a number that is no less, and another one, is above
above : (m n : ℕ) → m ≤ n → n ≢ m → m < n
above m n at other = go (cases_lt m n)
  where
    go : (m < n) ⊎ (n ≤ m) → m < n
    go (inl less) = less
    go (inr back) = absurd (other (le_antisymm back at))

-- ---- Fronts that change

changes : (T : Recording) (m l : ℕ) (a : Act) → IsAct T (suc m) a → front_at T l (suc m) ≢ front_at T l m → not (front l (a ∷ history T m) == front_at T l m) ≡ true
changes T m l a is other = go (front l (a ∷ history T m) == front_at T l m) refl
  where
    go : (b : Bool) → (front l (a ∷ history T m) == front_at T l m) ≡ b → not b ≡ true
    go true e = absurd (other (ap (front l) (history-act T m a is) ∙ eqb-true (front l (a ∷ history T m)) (front_at T l m) e))
    go false e = refl

changed : (T : Recording) (m l : ℕ) (a : Act) → IsAct T (suc m) a → not (front l (a ∷ history T m) == front_at T l m) ≡ true → front_at T l (suc m) ≢ front_at T l m
changed T m l a is tells = go (front l (a ∷ history T m) == front_at T l m) refl tells
  where
    go : (b : Bool) → (front l (a ∷ history T m) == front_at T l m) ≡ b → not b ≡ true → front_at T l (suc m) ≢ front_at T l m
    go true e x = absurd (true≢false (sym x))
    go false e x = λ same. eqb-false (front l (a ∷ history T m)) (front_at T l m) e (sym (ap (front l) (history-act T m a is)) ∙ same)

module _ (T : Recording) where
  abbrev lines : List ℕ
  lines = lines_of (history T (length T.events))

  touched : (l k : ℕ) (a : Act) → IsAct T k a → IsOnLine l a → Has lines l
  touched l k a is on = go (has_line l lines) refl
    where
      go : (b : Bool) → has_line l lines ≡ b → Has lines l
      go true e = has-from_line l lines e
      go false e = absurd (appears T l k a e is on)

  listed-changes : (m l : ℕ) (a : Act) → IsAct T (suc m) a → Has (raised lines a (history T m)) l → front_at T l (suc m) ≢ front_at T l m
  listed-changes m l a is has = changed T m l a is (filter-has (λ k. not (front k (a ∷ history T m) == front_at T k m)) lines l has).1

  changes-listed : (m l k : ℕ) (a b : Act) → IsAct T (suc m) a → IsAct T k b → IsOnLine l b → front_at T l (suc m) ≢ front_at T l m → Has (raised lines a (history T m)) l
  changes-listed m l k a b is at on other =
      filter-keeps (λ j. not (front j (a ∷ history T m) == front_at T j m)) lines l (touched l k b at on) (changes T m l a is other)

  -- ---- The flushes that a fence needs

  -- Event k is a flush that fence j needs, of one of these lines.
  abbrev NeedsOf : ℕ → List ℕ → ℕ → Type 0
  NeedsOf j ls k = (u : IsUsefulFlush T k) × (u.fence ≡ j) × Has ls u.line

  abbrev needs-useful : (t l m i : ℕ) → IsAct T (suc m) (Fences t) → front_at T l m < mark t l (history T m) → IsLastFlush T t l m i → IsUsefulFlush T i
  needs-useful t l m i fence raises last = record {
    thread = t;
    line = l;
    fence = suc m;
    is_flush = last.is_flush;
    is_fence = fence;
    later = let h : i ≤ m = last.by_now in omega arith;
    next_fence = λ k after before is.
        let up : count_at T l i ≤ front_at T l k = front-at_fence T t l i k last.is_flush is after in
        let on : front_at T l k ≤ front_at T l m = front-mono T l k m (omega arith) in
        omega (arith, last.stores);
    last_flush = λ k after before is. last.none_later k after (omega arith) is;
    needed = let e : suc m - 1 ≡ m = omega arith in rw e (omega (arith, last.stores));
  }

  raising-mark : (t l m : ℕ) → IsAct T (suc m) (Fences t) → front_at T l (suc m) ≢ front_at T l m → front_at T l m < mark t l (history T m)
  raising-mark t l m fence other =
      let now : front_at T l (suc m) ≡ max (front_at T l m) (mark t l (history T m)) = ap (front l) (history-act T m (Fences t) fence) in
      let on : front_at T l m ≤ front_at T l (suc m) = front-mono T l m (suc m) (omega arith) in
      let less : front_at T l m < front_at T l (suc m) = above (front_at T l m) (front_at T l (suc m)) on other in
      omega (arith, now, less)

  fence-needs : (t l m : ℕ) → IsAct T (suc m) (Fences t) → front_at T l m < mark t l (history T m) → (i : ℕ) × IsLastFlush T t l m i
  fence-needs t l m fence raises = go (last-flush T t l m)
    where
      go : (mark t l (history T m) ≡ 0) ⊎ ((i : ℕ) × IsLastFlush T t l m i) → (i : ℕ) × IsLastFlush T t l m i
      go (inl e) = absurd (omega arith)
      go (inr found) = found

  one-found : (t l m i : ℕ) → IsAct T (suc m) (Fences t) → front_at T l m < mark t l (history T m) → IsLastFlush T t l m i → Listing (NeedsOf (suc m) (l ∷ [])) 1
  one-found t l m i fence raises last = one-listed (NeedsOf (suc m) (l ∷ [])) i (needs-useful t l m i fence raises last, refl, inl refl) only
    where
      same : (k : ℕ) (u : IsUsefulFlush T k) → u.fence ≡ suc m → l ≡ u.line → i ≡ k
      same k u e d =
          let fences : Fences u.thread ≡ Fences t = act-unique T (suc m) (Fences u.thread) (Fences t) (subst (λ j. IsAct T j (Fences u.thread)) e u.is_fence) fence in
          let thread : u.thread ≡ t = cc in
          let acts : Flushes u.thread u.line ≡ Flushes t l = cc in
          let flush : IsAct T k (Flushes t l) = subst (IsAct T k) acts u.is_flush in
          let mine : IsAct T i (Flushes u.thread u.line) = subst (IsAct T i) (sym acts) last.is_flush in
          let before : i < u.fence = omega (arith, last.by_now, e) in
          let by_now : k ≤ m = omega (arith, u.later, e) in
          le_antisymm (not_later k i (λ less. u.last_flush i less before mine)) (not_later i k (λ less. last.none_later k less by_now flush))

      only : (k : ℕ) → NeedsOf (suc m) (l ∷ []) k → i ≡ k
      only k (u, e, inl d) = same k u e d
      only k (u, e, inr never) = absurd never

  one-needed : (t l m : ℕ) → IsAct T (suc m) (Fences t) → front_at T l (suc m) ≢ front_at T l m → Listing (NeedsOf (suc m) (l ∷ [])) 1
  one-needed t l m fence other =
      let raises = raising-mark t l m fence other in
      let found = fence-needs t l m fence raises in one-found t l m found.0 fence raises found.1

  all-needed : (t m : ℕ) → IsAct T (suc m) (Fences t) → (ls : List ℕ) → Distinct ls → ((l : ℕ) → Has ls l → front_at T l (suc m) ≢ front_at T l m) →
      Listing (NeedsOf (suc m) ls) (length ls)
  all-needed t m fence [] d each = none-listed (NeedsOf (suc m) []) (λ k x. x.2)
  all-needed t m fence (l ∷ ls) d each =
      let many : 1 + length ls ≡ suc (length ls) = omega arith in
      subst (Listing (NeedsOf (suc m) (l ∷ ls))) many
      (both-listed (NeedsOf (suc m) (l ∷ [])) (NeedsOf (suc m) ls) (NeedsOf (suc m) (l ∷ ls)) 1 (length ls) (one-needed t l m fence (each l (inl refl)))
      (all-needed t m fence ls d.1 (λ k has. each k (inr has))) apart left right split)
    where
      apart : (k : ℕ) → NeedsOf (suc m) (l ∷ []) k → NeedsOf (suc m) ls k → ⊥
      apart k (u, e, inl same) (v, f, has) = d.0 (subst (Has ls) (same-line T k v u ∙ sym same) has)
      apart k (u, e, inr never) other = never

      left : (k : ℕ) → NeedsOf (suc m) (l ∷ []) k → NeedsOf (suc m) (l ∷ ls) k
      left k (u, e, inl same) = (u, e, inl same)
      left k (u, e, inr never) = absurd never

      right : (k : ℕ) → NeedsOf (suc m) ls k → NeedsOf (suc m) (l ∷ ls) k
      right k (u, e, has) = (u, e, inr has)

      split : (k : ℕ) → NeedsOf (suc m) (l ∷ ls) k → NeedsOf (suc m) (l ∷ []) k ⊎ NeedsOf (suc m) ls k
      split k (u, e, inl same) = inl (u, e, inl same)
      split k (u, e, inr has) = inr (u, e, has)

  -- ---- What is kept for one event

  abbrev Owned : ℕ → ℕ → Type 0
  Owned j k = Owner T j k

  -- an event that is no fence is kept for itself alone
  owner-is : (m : ℕ) (a : Act) → IsAct T (suc m) a → ((t : ℕ) → a ≢ Fences t) → (k : ℕ) → Owner T (suc m) k → suc m ≡ k
  owner-is m a is other k (Itself none kept e) = e
  owner-is m a is other k (Needs u e) =
      absurd (other u.thread (act-unique T (suc m) a (Fences u.thread) is (subst (λ j. IsAct T j (Fences u.thread)) e u.is_fence)))

  kept-alone : (m : ℕ) (a : Act) → IsAct T (suc m) a → ((t : ℕ) → a ≢ Fences t) → ((t l : ℕ) → a ≢ Flushes t l) → IsKept T (suc m) → Listing (Owned (suc m)) 1
  kept-alone m a is no_fence none kept = one-listed (Owned (suc m)) (suc m) (Itself (no-flush T (suc m) a is none) kept refl) (owner-is m a is no_fence)

  -- a flush by itself is kept for none
  flush-none : (m t l : ℕ) → IsAct T (suc m) (Flushes t l) → (k : ℕ) → Owner T (suc m) k → ⊥
  flush-none m t l is k (Itself none kept e) = none t l (subst (λ j. IsAct T j (Flushes t l)) e is)
  flush-none m t l is k (Needs u e) = no-act T (suc m) (Flushes t l) (Fences u.thread) is (subst (λ j. IsAct T j (Fences u.thread)) e u.is_fence) (λ same. cc)

  -- a kept clflush raises its line's front
  clflush-raises : (m l : ℕ) → IsAct T (suc m) (Clflushes l) → IsKept T (suc m) → front_at T l (suc m) ≢ front_at T l m
  clflush-raises m l is (Stays a x stays) = let acts : Clflushes l ≡ a = act-unique T (suc m) (Clflushes l) a is x in absurd (true≢false (sym stays ∙ ap always_stays (sym acts)))
  clflush-raises m l is (ByFence u) = absurd (no-act T (suc m) (Clflushes l) (Fences u.thread) is u.is_fence (λ same. cc))
  clflush-raises m l is (ByFlush u) = absurd (no-act T (suc m) (Clflushes l) (Flushes u.thread u.line) is u.is_flush (λ same. cc))
  clflush-raises m l is (ByClflush u) =
      let acts : Clflushes l ≡ Clflushes u.line = act-unique T (suc m) (Clflushes l) (Clflushes u.line) is u.is_clflush in
      let line : u.line ≡ l = cc in
      let before : suc m - 1 ≡ m = omega arith in
      let P : ℕ → Type 0 = λ j. front_at T j (suc m) ≢ front_at T j m in
      subst P line (λ same. u.raises (same ∙ ap (front_at T u.line) (sym before)))

  clflush-listed : (m l : ℕ) → IsAct T (suc m) (Clflushes l) → (r : List ℕ) → raised lines (Clflushes l) (history T m) ≡ r →
      Listing (Owned (suc m)) (counts (Clflushes l) (length r))
  clflush-listed m l is [] e = none-listed (Owned (suc m)) (λ k owner. none (subst (IsKept T) (sym (owner-is m (Clflushes l) is (λ t x. cc) k owner)) (owned-kept T (suc m) k owner)))
    where
      none : IsKept T (suc m) → ⊥
      none kept = subst (λ ls. Has ls l) e (changes-listed m l (suc m) (Clflushes l) (Clflushes l) is is refl (clflush-raises m l is kept))
  clflush-listed m l is (x ∷ xs) e =
      let has : Has (raised lines (Clflushes l) (history T m)) x = subst (λ ls. Has ls x) (sym e) (inl refl) in
      kept-alone m (Clflushes l) is (λ t d. cc) (λ t k d. cc) (raising-is-kept T x m (Clflushes l) is (listed-changes m x (Clflushes l) is has))

  -- a kept fence raises a front
  fence-raises : (m t : ℕ) → IsAct T (suc m) (Fences t) → IsKept T (suc m) → (l : ℕ) × (front_at T l (suc m) ≢ front_at T l m)
  fence-raises m t is (Stays a x stays) = let acts : Fences t ≡ a = act-unique T (suc m) (Fences t) a is x in absurd (true≢false (sym stays ∙ ap always_stays (sym acts)))
  fence-raises m t is (ByFence u) = let before : suc m - 1 ≡ m = omega arith in (u.line, λ same. u.raises (same ∙ ap (front_at T u.line) (sym before)))
  fence-raises m t is (ByFlush u) = absurd (no-act T (suc m) (Fences t) (Flushes u.thread u.line) is u.is_flush (λ same. cc))
  fence-raises m t is (ByClflush u) = absurd (no-act T (suc m) (Fences t) (Clflushes u.line) is u.is_clflush (λ same. cc))

  fence-lists : (m t l : ℕ) → IsAct T (suc m) (Fences t) → front_at T l (suc m) ≢ front_at T l m → Has (raised lines (Fences t) (history T m)) l
  fence-lists m t l is other =
      let found = fence-needs t l m is (raising-mark t l m is other) in
      changes-listed m l found.0 (Fences t) (Flushes t l) is found.1.is_flush refl other

  -- a needed flush has its line's front raised
  needed-raises : (m k : ℕ) (u : IsUsefulFlush T k) → u.fence ≡ suc m → front_at T u.line (suc m) ≢ front_at T u.line m
  needed-raises m k u e same =
      let fence : IsAct T (suc m) (Fences u.thread) = subst (λ j. IsAct T j (Fences u.thread)) e u.is_fence in
      let before : k < suc m = omega (arith, u.later, e) in
      let up : count_at T u.line k ≤ front_at T u.line (suc m) = front-at_fence T u.thread u.line k (suc m) u.is_flush fence before in
      let place : u.fence - 1 ≡ m = omega (arith, e) in
      let needed : front_at T u.line m < count_at T u.line k = subst (λ j. front_at T u.line j < count_at T u.line k) place u.needed in
      omega (arith, up, needed, same)

  fence-none : (m t : ℕ) → IsAct T (suc m) (Fences t) → raised lines (Fences t) (history T m) ≡ [] → (k : ℕ) → Owner T (suc m) k → ⊥
  fence-none m t is e k (Itself none kept same) =
      let found = fence-raises m t is (subst (IsKept T) (sym same) kept) in
      subst (λ ls. Has ls found.0) e (fence-lists m t found.0 is found.1)
  fence-none m t is e k (Needs u same) = subst (λ ls. Has ls u.line) e (fence-lists m t u.line is (needed-raises m k u same))

  fence-listed : (m t : ℕ) → IsAct T (suc m) (Fences t) → (r : List ℕ) → raised lines (Fences t) (history T m) ≡ r → Listing (Owned (suc m)) (counts (Fences t) (length r))
  fence-listed m t is [] e = none-listed (Owned (suc m)) (fence-none m t is e)
  fence-listed m t is (x ∷ xs) e =
      let many : 1 + length (x ∷ xs) ≡ suc (suc (length xs)) = omega arith in
      subst (Listing (Owned (suc m))) many
      (both-listed (λ k. suc m ≡ k) (NeedsOf (suc m) (x ∷ xs)) (Owned (suc m)) 1 (length (x ∷ xs)) (one-listed (λ k. suc m ≡ k) (suc m) refl (λ k same. same))
      (all-needed t m is (x ∷ xs) (subst Distinct e (distinct-filter (λ k. not (front k (Fences t ∷ history T m) == front_at T k m)) lines (lines-distinct (history T (length T.events))))) raises)
      apart itself needs split)
    where
      raises : (l : ℕ) → Has (x ∷ xs) l → front_at T l (suc m) ≢ front_at T l m
      raises l has = listed-changes m l (Fences t) is (subst (λ ls. Has ls l) (sym e) has)

      apart : (k : ℕ) → suc m ≡ k → NeedsOf (suc m) (x ∷ xs) k → ⊥
      apart k same (u, d, has) = omega (arith, same, d, u.later)

      itself : (k : ℕ) → suc m ≡ k → Owner T (suc m) k
      itself k same =
          subst (Owner T (suc m)) same (Itself (no-flush T (suc m) (Fences t) is (λ u l d. cc)) (raising-is-kept T x m (Fences t) is (raises x (inl refl))) refl)

      needs : (k : ℕ) → NeedsOf (suc m) (x ∷ xs) k → Owner T (suc m) k
      needs k (u, d, has) = Needs u d

      split : (k : ℕ) → Owner T (suc m) k → (suc m ≡ k) ⊎ NeedsOf (suc m) (x ∷ xs) k
      split k (Itself none kept same) = inl same
      split k (Needs u d) = inr (u, d, subst (λ ls. Has ls u.line) e (fence-lists m t u.line is (needed-raises m k u d)))

  event-listed : (m : ℕ) (a : Act) → IsAct T (suc m) a → Listing (Owned (suc m)) (counts a (length (raised lines a (history T m))))
  event-listed m (Stores l w) is = kept-alone m (Stores l w) is (λ t e. cc) (λ t k e. cc) (Stays (Stores l w) is refl)
  event-listed m (Flushes t l) is = none-listed (Owned (suc m)) (flush-none m t l is)
  event-listed m (Clflushes l) is = clflush-listed m l is (raised lines (Clflushes l) (history T m)) refl
  event-listed m (Fences t) is = fence-listed m t is (raised lines (Fences t) (history T m)) refl
  event-listed m Asserts is = kept-alone m Asserts is (λ t e. cc) (λ t k e. cc) (Stays Asserts is refl)

  -- ---- What is kept for the first events

  abbrev OwnedBy : ℕ → ℕ → Type 0
  OwnedBy n k = (j : ℕ) × (1 ≤ j) × (j ≤ n) × Owner T j k

  newest_or_older : (m k j : ℕ) → 1 ≤ j → j ≤ suc m → Owner T j k → (j < suc m) ⊎ (suc m ≤ j) → Owner T (suc m) k ⊎ OwnedBy m k
  newest_or_older m k j first last owner (inl less) = inr (j, first, omega (arith, less), owner)
  newest_or_older m k j first last owner (inr at) = let same : j ≡ suc m = le_antisymm last at in inl (subst (λ i. Owner T i k) same owner)

  first-listed : (n : ℕ) → n ≤ length T.events → Listing (OwnedBy n) (all_counts lines (history T n))
  first-listed zero within =
      subst (λ h. Listing (OwnedBy 0) (all_counts lines h)) (sym (no-acts (history T 0) (length-history T 0 (omega arith))))
      (none-listed (OwnedBy 0) (λ k x. omega (arith, x.1, x.2)))
  first-listed (suc m) within = go (history-step T m) (first-listed m (omega arith))
    where
      go : ((a : Act) × IsAct T (suc m) a) ⊎ ((length T.events ≤ m) × (history T (suc m) ≡ history T m)) → Listing (OwnedBy m) (all_counts lines (history T m)) →
          Listing (OwnedBy (suc m)) (all_counts lines (history T (suc m)))
      go (inr over) rest = absurd (omega (arith, over.0, within))
      go (inl (a, is)) rest =
          subst (λ h. Listing (OwnedBy (suc m)) (all_counts lines h)) (sym (history-act T m a is))
          (both-listed (Owned (suc m)) (OwnedBy m) (OwnedBy (suc m)) (counts a (length (raised lines a (history T m)))) (all_counts lines (history T m)) (event-listed m a is) rest apart newest older
          split)
        where
          apart : (k : ℕ) → Owner T (suc m) k → OwnedBy m k → ⊥
          apart k owner (j, first, last, other) = let same : suc m ≡ j = one-owner T (suc m) j k owner other in omega (arith, same, last)

          newest : (k : ℕ) → Owner T (suc m) k → OwnedBy (suc m) k
          newest k owner = (suc m, omega arith, omega arith, owner)

          older : (k : ℕ) → OwnedBy m k → OwnedBy (suc m) k
          older k (j, first, last, owner) = (j, first, omega (arith, last), owner)

          split : (k : ℕ) → OwnedBy (suc m) k → Owner T (suc m) k ⊎ OwnedBy m k
          split k (j, first, last, owner) = newest_or_older m k j first last owner (cases_lt j (suc m))

  all-listed : Listing (IsKept T) (kept_count T)
  all-listed = listed-as (OwnedBy (length T.events)) (IsKept T) (kept_count T) (first-listed (length T.events) (omega arith)) (λ k x. owned-kept T x.0 k x.3) owned
    where
      first : (j k : ℕ) → Owner T j k → 1 ≤ j
      first j k (Itself none (Stays a is stays) e) = omega (arith, (act-within T k a is).0, e)
      first j k (Itself none (ByFence u) e) = omega (arith, (act-within T k (Fences u.thread) u.is_fence).0, e)
      first j k (Itself none (ByFlush u) e) = absurd (none u.thread u.line u.is_flush)
      first j k (Itself none (ByClflush u) e) = omega (arith, (act-within T k (Clflushes u.line) u.is_clflush).0, e)
      first j k (Needs u e) = omega (arith, u.later, e)

      owned : (k : ℕ) → IsKept T k → OwnedBy (length T.events) k
      owned k kept = let x = kept-owned T k kept in (x.0, first x.0 k x.2, x.1, x.2)

pub keep-is-counted : KeepIsCounted
keep-is-counted T K keep =
    same-size (IsKept T) (length K) (kept_count T)
    (record { members = K; many = refl; distinct = rising-distinct 0 K keep.rising; each = λ k has. (keep.just k).0 has; all = λ k kept. (keep.just k).1 kept }) (all-listed T)
