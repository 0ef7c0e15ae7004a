-- The pass over a line's steps from the last to the first.
use Rattle.std.proofs.Common.{◌≡◌, ◌≢◌, ℕ, zero, suc, ◌-◌, ◌<◌, ◌≤◌, ◌⊎◌, inl, inr, Bool, true, false, List, [], ◌∷◌, ◌++◌, length, get_or, set, take, reverse, Bor, Option, Some, None, refl, sym, ap, subst, ◌∙◌, arith, get_or-set_same, get_or-set_other}
use Rattle.std.specs.Prelude.{slice_get, ◌↔◌, MatchOption, is_some, unwrap_or, replicate}
use Rattle.std.proofs.lemmas.Bool.{cases_lt, cases_eq, cases_Bool, false≢true}
use Rattle.std.proofs.lemmas.List.{reverse-append}
use Rattle.std.proofs.lemmas.Option.{none-some, same_Some}
use Rattle.pmt_laws.specs.Prelude.{Stores, Flushes, Clflushes, Fences, Recording, IsAct, front_at, IsRising, Has}
use Rattle.pmt_laws.proofs.Histories.{act-within, act-unique}
use Rattle.pmt_lines.specs.Jobs.{Raise, RaisesBetween, IsRaises, last_number, IsKind, IsStepOf, Touches, ByFlush, IsWalkFrom, IsJobOf}
use Rattle.pmt_lines.specs.declared.step.StepKind.{StepKind}
use Rattle.pmt_lines.specs.declared.step.StepKind.TheVariants.{Store, Flush, Clflush, Fence}
use Rattle.pmt_lines.specs.declared.step.Step.{Step}
use Rattle.pmt_trim.specs.Kept as kept
use Rattle.pmt_trim.specs.Kept.{IsKeptFor, IsLineKept, is_kept, waiting_before, LastIsAt, LastIsElsewhere}
use Rattle.pmt_trim.proofs.Waiting.{kept-touches, front-stays, Awaits, awaits-unfenced, useful-awaits, awaits-useful}
use Rattle.pmt_trim.proofs.RaiseLemmas.{raises-before, raises-last, raises-elsewhere}

-- The step is the next event after low that touches line l, or a fence before that.
pub record IsNextStep (T : Recording) (l low : ℕ) (s : Step) : Type 0 where
  pub later : low < s.number
  pub one : IsStepOf T l s
  pub untouched : (n : ℕ) → low < n → n < s.number → ¬ Touches T l n

-- What the pass knows once the steps after event low are passed.
pub record IsPassed (T : Recording) (l low : ℕ) (raises : List Raise) (waiting : List Bool) (kept : List ℕ) : Type 0 where
  pub told : RaisesBetween T l 0 low raises
  pub awaited : (t : ℕ) → t < 256 → (get_or waiting t false ≡ true) ↔ Awaits T l t low
  pub rising : IsRising low kept
  pub just : (n : ℕ) → Has kept n ↔ ((low < n) × IsKeptFor T l n)

-- Whether the event at n raises the front of line l.
pub record TellsRise (T : Recording) (l n : ℕ) (rises : Bool) : Type 0 where
  pub yes : rises ≡ true → front_at T l n ≢ front_at T l (n - 1)
  pub no : rises ≡ false → front_at T l n ≡ front_at T l (n - 1)

-- a fence that raises the front is kept for the line
fence-kept : (T : Recording) (l t low : ℕ) → (a : Awaits T l t low) → IsKeptFor T l a.fence
fence-kept T l t low a = kept.ByFence t a.is_fence a.raises

-- no thread waits past the last event that touches the line
awaits-none : (T : Recording) (l t low : ℕ) → ((n : ℕ) → low < n → ¬ Touches T l n) → Awaits T l t low → ⊥
awaits-none T l t low untouched a = untouched a.fence a.later (kept-touches T l a.fence (fence-kept T l t low a))

-- a thread waits before a step where it waits after it, unless the step flushes the line or is a fence, by the thread
awaits-over : (T : Recording) (l t low : ℕ) (s : Step) → IsNextStep T l low s → (IsAct T s.number (Flushes t l) → ⊥) → (IsAct T s.number (Fences t) → ⊥) →
    Awaits T l t s.number ↔ Awaits T l t low
awaits-over T l t low s next no_flush no_fence = (back, on)
  where
    back : Awaits T l t s.number → Awaits T l t low
    back a = record {
      fence = a.fence;
      later = omega (arith, next.later, a.later);
      is_fence = a.is_fence;
      raises = a.raises;
      unflushed = λ k above below is. at a k below above is (cases_lt k s.number) (cases_lt s.number k);
    }
      where
        at : (a : Awaits T l t s.number) → (k : ℕ) → k < a.fence → low < k → IsAct T k (Flushes t l) → (k < s.number) ⊎ (s.number ≤ k) → (s.number < k) ⊎ (k ≤ s.number) → ⊥
        at a k below above is (inl before) other = next.untouched k above before (ByFlush t is)
        at a k below above is (inr h) (inl after) = a.unflushed k after below is
        at a k below above is (inr h) (inr g) = let e : k ≡ s.number = omega arith in no_flush (subst (λ j. IsAct T j (Flushes t l)) e is)

    on : Awaits T l t low → Awaits T l t s.number
    on a = record {
      fence = a.fence;
      later = past a (cases_lt a.fence s.number) (cases_lt s.number a.fence);
      is_fence = a.is_fence;
      raises = a.raises;
      unflushed = λ k above below is. a.unflushed k (omega (arith, next.later, above)) below is;
    }
      where
        past : (a : Awaits T l t low) → (a.fence < s.number) ⊎ (s.number ≤ a.fence) → (s.number < a.fence) ⊎ (a.fence ≤ s.number) → s.number < a.fence
        past a (inl before) other = absurd (next.untouched a.fence a.later before (kept-touches T l a.fence (fence-kept T l t low a)))
        past a (inr h) (inl after) = after
        past a (inr h) (inr g) = let e : a.fence ≡ s.number = omega arith in absurd (no_fence (subst (λ j. IsAct T j (Fences t)) e a.is_fence))

-- no thread waits before its own flush of the line
awaits-flush : (T : Recording) (l t low : ℕ) (s : Step) → IsNextStep T l low s → IsAct T s.number (Flushes t l) → Awaits T l t low → ⊥
awaits-flush T l t low s next is a = go (cases_lt a.fence s.number) (cases_lt s.number a.fence)
  where
    go : (a.fence < s.number) ⊎ (s.number ≤ a.fence) → (s.number < a.fence) ⊎ (a.fence ≤ s.number) → ⊥
    go (inl before) other = next.untouched a.fence a.later before (kept-touches T l a.fence (fence-kept T l t low a))
    go (inr h) (inl after) = a.unflushed s.number next.later after is
    go (inr h) (inr g) =
        let e : a.fence ≡ s.number = omega arith in
        let same : Fences t ≡ Flushes t l = act-unique T s.number (Fences t) (Flushes t l) (subst (λ j. IsAct T j (Fences t)) e a.is_fence) is in
        cc

-- it waits before its own fence exactly where that raises the front
awaits-fence : (T : Recording) (l t low : ℕ) (s : Step) (rises : Bool) → IsNextStep T l low s → TellsRise T l s.number rises → IsAct T s.number (Fences t) → (rises ≡ true) ↔ Awaits T l t low
awaits-fence T l t low s rises next tells is = (there, back)
  where
    there : rises ≡ true → Awaits T l t low
    there e = record {
      fence = s.number;
      later = next.later;
      is_fence = is;
      raises = tells.yes e;
      unflushed = λ k above below flush. next.untouched k above below (ByFlush t flush);
    }

    back : Awaits T l t low → rises ≡ true
    back a = go (cases_Bool rises) (cases_lt a.fence s.number) (cases_lt s.number a.fence)
      where
        go : (rises ≡ true) ⊎ (rises ≡ false) → (a.fence < s.number) ⊎ (s.number ≤ a.fence) → (s.number < a.fence) ⊎ (a.fence ≤ s.number) → rises ≡ true
        go (inl e) x y = e
        go (inr e) (inl before) y = absurd (next.untouched a.fence a.later before (kept-touches T l a.fence (fence-kept T l t low a)))
        go (inr e) (inr h) (inl after) = absurd (awaits-unfenced T l t low a s.number next.later after is)
        go (inr e) (inr h) (inr g) =
            let same : a.fence ≡ s.number = omega arith in
            absurd (subst (λ j. front_at T l j ≢ front_at T l (j - 1)) same a.raises (tells.no e))

-- the raises before a step, where the last one is at it
pub told-raised : (T : Recording) (l low : ℕ) (s : Step) (raises before : List Raise) → IsNextStep T l low s → RaisesBetween T l 0 s.number raises → LastIsAt raises s.number before →
    RaisesBetween T l 0 low before × TellsRise T l s.number true
told-raised T l low s raises before next told last = go s.number next.later next.untouched told (last.2)
  where
    go : (k : ℕ) → low < k → ((n : ℕ) → low < n → n < k → ¬ Touches T l n) → RaisesBetween T l 0 k raises → last.0.0 ≡ k → RaisesBetween T l 0 low before × TellsRise T l k true
    go zero later untouched told at = absurd (omega arith)
    go (suc n) later untouched told at =
        let e : suc n - 1 ≡ n = omega arith in
        let split = raises-last T l 0 n before last.0 (subst (λ rs. RaisesBetween T l 0 (suc n) rs) last.1 told) at in (
          raises-before T l 0 low n before split.0 (omega arith) (omega arith) (λ k a b. front-stays T l low k a (λ j x y. untouched j x (omega arith))),
          record { yes = λ _. subst (λ m. front_at T l (suc n) ≢ front_at T l m) (sym e) split.1; no = λ f. cc },
        )

-- and where it is elsewhere
pub told-quiet : (T : Recording) (l low : ℕ) (s : Step) (raises : List Raise) → IsNextStep T l low s → RaisesBetween T l 0 s.number raises → LastIsElsewhere raises s.number →
    RaisesBetween T l 0 low raises × TellsRise T l s.number false
told-quiet T l low s raises next told elsewhere = go s.number next.later next.untouched told elsewhere
  where
    go : (k : ℕ) → low < k → ((n : ℕ) → low < n → n < k → ¬ Touches T l n) → RaisesBetween T l 0 k raises → LastIsElsewhere raises k → RaisesBetween T l 0 low raises × TellsRise T l k false
    go zero later untouched told elsewhere = absurd (omega arith)
    go (suc n) later untouched told elsewhere =
        let e : suc n - 1 ≡ n = omega arith in
        let same : front_at T l (suc n) ≡ front_at T l n = raises-elsewhere T l 0 n raises told (omega arith) elsewhere in
        let stays : (k : ℕ) → low ≤ k → k ≤ n → front_at T l k ≡ front_at T l low = λ k a b. front-stays T l low k a (λ j x y. untouched j x (omega arith)) in (
          raises-before T l 0 low (suc n) raises told (omega arith) (omega arith) (λ k a b. at stays same k a b (cases_lt n k)),
          record { yes = λ f. cc; no = λ _. same ∙ ap (front_at T l) (sym e) },
        )
      where
        at : ((k : ℕ) → low ≤ k → k ≤ n → front_at T l k ≡ front_at T l low) → front_at T l (suc n) ≡ front_at T l n → (k : ℕ) → low ≤ k → k ≤ suc n → (n < k) ⊎ (k ≤ n) → front_at T l k ≡ front_at T l low
        at stays same k a b (inl end) = let f : k ≡ suc n = omega arith in ap (front_at T l) f ∙ same ∙ stays n (omega arith) (omega arith)
        at stays same k a b (inr before) = stays k a before

-- which step is kept: the one that is so for the line
kept-iff : (T : Recording) (l low n t : ℕ) (kind : StepKind) (rises : Bool) (waiting : List Bool) → IsKind T l n t kind → TellsRise T l n rises → t < 256 →
    ((get_or waiting t false ≡ true) ↔ Awaits T l t n) → (is_kept kind t rises waiting ≡ true) ↔ IsKeptFor T l n
kept-iff T l low n t (Store addr len) rises waiting kind tells small awaited = (λ e. absurd (false≢true e), never)
  where
    never : IsKeptFor T l n → false ≡ true
    never (kept.ByFlush u e) = let f : Flushes u.thread u.line ≡ Stores l kind.0 = act-unique T n _ _ u.is_flush kind.1 in cc
    never (kept.ByClflush u e) = let f : Clflushes u.line ≡ Stores l kind.0 = act-unique T n _ _ u.is_clflush kind.1 in cc
    never (kept.ByFence u is raises) = let f : Fences u ≡ Stores l kind.0 = act-unique T n _ _ is kind.1 in cc
kept-iff T l low n t Flush rises waiting kind tells small awaited = (λ e. let u = awaits-useful T l t n kind (awaited.0 e) in kept.ByFlush u.0 u.1, back)
  where
    back : IsKeptFor T l n → get_or waiting t false ≡ true
    back (kept.ByFlush u e) =
        let f : Flushes u.thread u.line ≡ Flushes t l = act-unique T n _ _ u.is_flush kind in
        let same : u.thread ≡ t = cc in
        awaited.1 (subst (λ v. Awaits T l v n) same (useful-awaits T l n u e))
    back (kept.ByClflush u e) = let f : Clflushes u.line ≡ Flushes t l = act-unique T n _ _ u.is_clflush kind in cc
    back (kept.ByFence u is raises) = let f : Fences u ≡ Flushes t l = act-unique T n _ _ is kind in cc
kept-iff T l low n t Clflush rises waiting kind tells small awaited = (λ e. kept.ByClflush (record { line = l; is_clflush = kind; raises = tells.yes e }) refl, back)
  where
    changes : front_at T l n ≢ front_at T l (n - 1) → rises ≡ true
    changes c = elim (cases_Bool rises) [ inl e ↦ e | inr e ↦ absurd (c (tells.no e)) ]

    back : IsKeptFor T l n → rises ≡ true
    back (kept.ByFlush u e) = let f : Flushes u.thread u.line ≡ Clflushes l = act-unique T n _ _ u.is_flush kind in cc
    back (kept.ByClflush u e) = changes (subst (λ k. front_at T k n ≢ front_at T k (n - 1)) e u.raises)
    back (kept.ByFence u is raises) = changes raises
kept-iff T l low n t Fence rises waiting kind tells small awaited = (λ e. kept.ByFence t kind (tells.yes e), back)
  where
    changes : front_at T l n ≢ front_at T l (n - 1) → rises ≡ true
    changes c = elim (cases_Bool rises) [ inl e ↦ e | inr e ↦ absurd (c (tells.no e)) ]

    back : IsKeptFor T l n → rises ≡ true
    back (kept.ByFlush u e) = let f : Flushes u.thread u.line ≡ Fences t = act-unique T n _ _ u.is_flush kind in cc
    back (kept.ByClflush u e) = changes (subst (λ k. front_at T k n ≢ front_at T k (n - 1)) e u.raises)
    back (kept.ByFence u is raises) = changes raises

-- which threads wait before the step
waits-before : (T : Recording) (l low : ℕ) (s : Step) (kind : StepKind) (rises : Bool) (waiting : List Bool) → IsNextStep T l low s → IsKind T l s.number s.thread kind → TellsRise T l s.number rises →
    s.thread < 256 → length waiting ≡ 256 → ((t : ℕ) → t < 256 → (get_or waiting t false ≡ true) ↔ Awaits T l t s.number) →
    (t : ℕ) → t < 256 → (get_or (waiting_before kind s.thread rises waiting) t false ≡ true) ↔ Awaits T l t low
waits-before T l low s (Store addr len) rises waiting next kind tells small size awaited t h =
    let over = awaits-over T l t low s next
    (λ is. let f : Flushes t l ≡ Stores l kind.0 = act-unique T s.number _ _ is kind.1 in cc)
    (λ is. let f : Fences t ≡ Stores l kind.0 = act-unique T s.number _ _ is kind.1 in cc) in
    (λ e. over.0 ((awaited t h).0 e), λ a. (awaited t h).1 (over.1 a))
waits-before T l low s Flush rises waiting next kind tells small size awaited t h = go (cases_eq t s.thread)
  where
    go : (t ≡ s.thread) ⊎ (t ≡ s.thread → ⊥) → (get_or (set waiting s.thread false) t false ≡ true) ↔ Awaits T l t low
    go (inl same) =
        let cleared : get_or (set waiting s.thread false) t false ≡ false = ap (λ k. get_or (set waiting s.thread false) k false) same ∙ get_or-set_same waiting s.thread false false (omega arith) in
        (λ e. absurd (false≢true (sym cleared ∙ e)), λ a. absurd (awaits-flush T l t low s next (subst (λ u. IsAct T s.number (Flushes u l)) (sym same) kind) a))
    go (inr other) =
        let stays : get_or (set waiting s.thread false) t false ≡ get_or waiting t false = get_or-set_other waiting s.thread t false false other in
        let over = awaits-over T l t low s next
        (λ is. let f : Flushes t l ≡ Flushes s.thread l = act-unique T s.number _ _ is kind in other (cc))
        (λ is. let f : Fences t ≡ Flushes s.thread l = act-unique T s.number _ _ is kind in cc) in
        (λ e. over.0 ((awaited t h).0 (sym stays ∙ e)), λ a. stays ∙ (awaited t h).1 (over.1 a))
waits-before T l low s Clflush rises waiting next kind tells small size awaited t h =
    let over = awaits-over T l t low s next
    (λ is. let f : Flushes t l ≡ Clflushes l = act-unique T s.number _ _ is kind in cc)
    (λ is. let f : Fences t ≡ Clflushes l = act-unique T s.number _ _ is kind in cc) in
    (λ e. over.0 ((awaited t h).0 e), λ a. (awaited t h).1 (over.1 a))
waits-before T l low s Fence rises waiting next kind tells small size awaited t h = go (cases_eq t s.thread)
  where
    go : (t ≡ s.thread) ⊎ (t ≡ s.thread → ⊥) → (get_or (set waiting s.thread rises) t false ≡ true) ↔ Awaits T l t low
    go (inl same) =
        let now : get_or (set waiting s.thread rises) t false ≡ rises = ap (λ k. get_or (set waiting s.thread rises) k false) same ∙ get_or-set_same waiting s.thread rises false (omega arith) in
        let fence = awaits-fence T l t low s rises next tells (subst (λ u. IsAct T s.number (Fences u)) (sym same) kind) in
        (λ e. fence.0 (sym now ∙ e), λ a. now ∙ fence.1 a)
    go (inr other) =
        let stays : get_or (set waiting s.thread rises) t false ≡ get_or waiting t false = get_or-set_other waiting s.thread t rises false other in
        let over = awaits-over T l t low s next
        (λ is. let f : Flushes t l ≡ Fences s.thread = act-unique T s.number _ _ is kind in cc)
        (λ is. let f : Fences t ≡ Fences s.thread = act-unique T s.number _ _ is kind in other (cc)) in
        (λ e. over.0 ((awaited t h).0 (sym stays ∙ e)), λ a. stays ∙ (awaited t h).1 (over.1 a))

-- the kept numbers, with the step where it is kept
abbrev pub with_step : Bool → ℕ → List ℕ → List ℕ
with_step true n kept = n ∷ kept
with_step false n kept = kept

-- the numbers rise, and are those from before the step on
kept-before : (T : Recording) (l low : ℕ) (s : Step) (keeps : Bool) (numbers : List ℕ) → IsNextStep T l low s → ((keeps ≡ true) ↔ IsKeptFor T l s.number) → IsRising s.number numbers →
    ((n : ℕ) → Has numbers n ↔ ((s.number < n) × IsKeptFor T l n)) →
    IsRising low (with_step keeps s.number numbers) × ((n : ℕ) → Has (with_step keeps s.number numbers) n ↔ ((low < n) × IsKeptFor T l n))
kept-before T l low s keeps numbers next iff rising just = go keeps iff
  where
    weaker : (m n : ℕ) (ks : List ℕ) → m < n → IsRising n ks → IsRising m ks
    weaker m n [] h r = tt
    weaker m n (k ∷ ks) h r = (omega (arith, r.0), r.1)

    go : (b : Bool) → ((b ≡ true) ↔ IsKeptFor T l s.number) → IsRising low (with_step b s.number numbers) × ((n : ℕ) → Has (with_step b s.number numbers) n ↔ ((low < n) × IsKeptFor T l n))
    go b iff = (up b, λ n. (has b iff n, back b iff n (cases_lt n s.number) (cases_lt s.number n)))
      where
        up : (b : Bool) → IsRising low (with_step b s.number numbers)
        up true = (next.later, rising)
        up false = weaker low s.number numbers next.later rising

        later : (n : ℕ) → Has numbers n → (low < n) × IsKeptFor T l n
        later n h = let x = (just n).0 h in (omega (arith, next.later, x.0), x.1)

        has : (b : Bool) → ((b ≡ true) ↔ IsKeptFor T l s.number) → (n : ℕ) → Has (with_step b s.number numbers) n → (low < n) × IsKeptFor T l n
        has true iff n (inl e) = (let h : low < s.number = next.later in omega arith, subst (λ k. IsKeptFor T l k) e (iff.0 refl))
        has true iff n (inr h) = later n h
        has false iff n h = later n h

        back : (b : Bool) → ((b ≡ true) ↔ IsKeptFor T l s.number) → (n : ℕ) → (n < s.number) ⊎ (s.number ≤ n) → (s.number < n) ⊎ (n ≤ s.number) → (low < n) × IsKeptFor T l n → Has (with_step b s.number numbers) n
        back b iff n (inl before) y x = absurd (next.untouched n x.0 before (kept-touches T l n x.1))
        back true iff n (inr h) (inl after) x = inr ((just n).1 (after, x.1))
        back false iff n (inr h) (inl after) x = (just n).1 (after, x.1)
        back true iff n (inr h) (inr g) x = inl (omega arith)
        back false iff n (inr h) (inr g) x = let e : n ≡ s.number = omega arith in absurd (false≢true (iff.1 (subst (λ k. IsKeptFor T l k) e x.1)))

-- one step back
pub passed-step : (T : Recording) (l low : ℕ) (s : Step) (rises : Bool) (after before : List Raise) (waiting : List Bool) (numbers : List ℕ) → IsNextStep T l low s → RaisesBetween T l 0 low before →
    TellsRise T l s.number rises → s.thread < 256 → length waiting ≡ 256 → IsPassed T l s.number after waiting numbers →
    IsPassed T l low before (waiting_before s.kind s.thread rises waiting) (with_step (is_kept s.kind s.thread rises waiting) s.number numbers)
passed-step T l low s rises after before waiting numbers next told tells small size passed =
    let more = kept-before T l low s (is_kept s.kind s.thread rises waiting) numbers next
    (kept-iff T l low s.number s.thread s.kind rises waiting next.one.kind tells small (passed.awaited s.thread small)) passed.rising passed.just in
    record {
      told = told;
      awaited = waits-before T l low s s.kind rises waiting next next.one.kind tells small size passed.awaited;
      rising = more.0;
      just = more.1;
    }

-- a step of the walk, and the number of the step before it
walk-at : (T : Recording) (l low : ℕ) (steps : List Step) (i : ℕ) (s : Step) → IsWalkFrom (IsStepOf T l) (Touches T l) low steps → slice_get steps i ≡ Some s →
    IsNextStep T l (last_number low (take i steps)) s × (last_number low (take (suc i) steps) ≡ s.number)
walk-at T l low [] i s walk is = absurd (none-some s is)
walk-at T l low (x ∷ steps) zero s walk is =
    let e : x ≡ s = same_Some x s is in
    (subst (λ y. IsNextStep T l low y) e (record { later = walk.0; one = walk.1; untouched = walk.2 }), ap (λ (y : Step). y.number) e)
walk-at T l low (x ∷ steps) (suc i) s walk is = walk-at T l x.number steps i s walk.3 is

-- nothing touches the line after the last step, whose number is that of an event
walk-end : (T : Recording) (l low : ℕ) (steps : List Step) → IsWalkFrom (IsStepOf T l) (Touches T l) low steps → low ≤ length T.events →
    (last_number low steps ≤ length T.events) × ((n : ℕ) → last_number low steps < n → ¬ Touches T l n)
walk-end T l low [] walk within = (within, walk)
walk-end T l low (x ∷ steps) walk within = walk-end T l x.number steps walk.3 (inside walk.1.kind)
  where
    inside : IsKind T l x.number x.thread x.kind → x.number ≤ length T.events
    inside kind = by x.kind kind
      where
        by : (kind : StepKind) → IsKind T l x.number x.thread kind → x.number ≤ length T.events
        by (Store addr len) is = (act-within T x.number (Stores l is.0) is.1).1
        by Flush is = (act-within T x.number (Flushes x.thread l) is).1
        by Clflush is = (act-within T x.number (Clflushes l) is).1
        by Fence is = (act-within T x.number (Fences x.thread) is).1

-- no thread waits in copies of false
all-false : (n t : ℕ) → get_or (replicate n false) t false ≡ false
all-false zero t = refl
all-false (suc n) zero = refl
all-false (suc n) (suc t) = all-false n t

-- before the first step back
pub passed-none : (T : Recording) (l : ℕ) (steps : List Step) (raises : List Raise) (waiting : List Bool) → IsJobOf T l steps → IsRaises T l raises → waiting ≡ replicate 256 false →
    IsPassed T l (last_number 0 steps) raises waiting []
passed-none T l steps raises waiting job told start =
    let none : (t : ℕ) → get_or waiting t false ≡ false = λ t. ap (λ bs. get_or bs t false) start ∙ all-false 256 t in
    let end = walk-end T l 0 steps job (omega arith) in
    record {
      told = raises-before T l 0 (last_number 0 steps) (length T.events) raises told (omega arith) end.0
          (λ n a b. front-stays T l (last_number 0 steps) n a (λ k x y. end.1 k x));
      awaited = λ t h. (λ e. absurd (false≢true (sym (none t) ∙ e)), λ a. absurd (awaits-none T l t (last_number 0 steps) end.1 a));
      rising = tt;
      just = λ n. (λ h. absurd h, λ x. absurd (end.1 n x.0 (kept-touches T l n x.1)));
    }

-- after the last step back
pub passed-all : (T : Recording) (l : ℕ) (raises : List Raise) (waiting : List Bool) (numbers : List ℕ) → IsPassed T l 0 raises waiting numbers → IsLineKept T l numbers
passed-all T l raises waiting numbers passed =
    record { rising = passed.rising; just = λ n. (λ h. ((passed.just n).0 h).1, λ k. (passed.just n).1 (above n k, k)) }
  where
    above : (n : ℕ) → IsKeptFor T l n → 0 < n
    above n (kept.ByFlush u e) = (act-within T n (Flushes u.thread u.line) u.is_flush).0
    above n (kept.ByClflush u e) = (act-within T n (Clflushes u.line) u.is_clflush).0
    above n (kept.ByFence t is raises) = (act-within T n (Fences t) is).0

-- what one turn of the pass does: the raises, the threads that wait and the kept numbers after it
pub record IsTurn (s : Step) (found : Option (Bor (List Raise))) (raises left : List Raise) (waiting after : List Bool) (numbers more : List ℕ) : Type 0 where
  pub told : MatchOption found ((left ≡ raises) × LastIsElsewhere raises s.number) (λ b. (left ≡ b.now) × LastIsAt raises s.number b.now)
  pub waits : after ≡ waiting_before s.kind s.thread (is_some found) waiting
  pub keeps : more ≡ with_step (is_kept s.kind s.thread (is_some found) waiting) s.number numbers

-- the pass after one more turn
pub passed-turn : (T : Recording) (l : ℕ) (steps : List Step) (i : ℕ) (s : Step) (found : Option (Bor (List Raise))) (raises left : List Raise) (waiting after : List Bool) (numbers more : List ℕ) →
    IsTurn s found raises left waiting after numbers more → IsJobOf T l steps → 0 < i → slice_get steps (i - 1) ≡ Some s → s.thread < 256 → length waiting ≡ 256 →
    IsPassed T l (last_number 0 (take i steps)) raises waiting numbers → IsPassed T l (last_number 0 (take (i - 1) steps)) left after more
passed-turn T l steps zero s found raises left waiting after numbers more turn job some is small size passed = absurd (omega arith)
passed-turn T l steps (suc i) s found raises left waiting after numbers more turn job some is small size passed =
    let e : suc i - 1 ≡ i = omega arith in
    let at = walk-at T l 0 steps i s job (subst (λ k. slice_get steps k ≡ Some s) e is) in
    let here : IsPassed T l s.number raises waiting numbers = subst (λ k. IsPassed T l k raises waiting numbers) at.1 passed in
    rw (e, turn.waits, turn.keeps) (go found turn.told at.0 here)
  where
    go : (o : Option (Bor (List Raise))) → MatchOption o ((left ≡ raises) × LastIsElsewhere raises s.number) (λ b. (left ≡ b.now) × LastIsAt raises s.number b.now) →
        IsNextStep T l (last_number 0 (take i steps)) s → IsPassed T l s.number raises waiting numbers →
        IsPassed T l (last_number 0 (take i steps)) left (waiting_before s.kind s.thread (is_some o) waiting) (with_step (is_kept s.kind s.thread (is_some o) waiting) s.number numbers)
    go None x next here =
        let told = told-quiet T l (last_number 0 (take i steps)) s raises next here.told x.1 in
        rw (x.0) (passed-step T l (last_number 0 (take i steps)) s false raises raises waiting numbers next told.0 told.1 small size here)
    go (Some b) x next here =
        let told = told-raised T l (last_number 0 (take i steps)) s raises b.now next here.told x.1 in
        rw (x.0) (passed-step T l (last_number 0 (take i steps)) s true raises b.now waiting numbers next told.0 told.1 small size here)

-- the last raise, as the pass finds it
told-left : (n : ℕ) (found : Option (Bor (List Raise))) (raises left : Bor (List Raise)) → MatchOption found (LastIsElsewhere raises.now n) (λ b. LastIsAt raises.now n b.now) →
    left ≡ unwrap_or found raises → MatchOption found ((left.now ≡ raises.now) × LastIsElsewhere raises.now n) (λ b. (left.now ≡ b.now) × LastIsAt raises.now n b.now)
told-left n None raises left told e = (ap (λ (b : Bor (List Raise)). b.now) e, told)
told-left n (Some b) raises left told e = (ap (λ (x : Bor (List Raise)). x.now) e, told)

-- a turn, from what its calls say
pub turn : (s : Step) (found : Option (Bor (List Raise))) (raises left : Bor (List Raise)) (rises keeps : Bool) (waiting after : List Bool) (numbers more : List ℕ) →
    MatchOption found (LastIsElsewhere raises.now s.number) (λ b. LastIsAt raises.now s.number b.now) → left ≡ unwrap_or found raises → rises ≡ is_some found →
    keeps ≡ is_kept s.kind s.thread rises waiting → after ≡ waiting_before s.kind s.thread rises waiting → more ≡ with_step keeps s.number numbers →
    IsTurn s found raises.now left.now waiting after numbers more
turn s found raises left rises keeps waiting after numbers more told unwraps some kept waits more_is =
    record {
      told = told-left s.number found raises left told unwraps;
      waits = waits ∙ ap (λ b. waiting_before s.kind s.thread b waiting) some;
      keeps = more_is ∙ ap (λ b. with_step b s.number numbers) (kept ∙ ap (λ b. is_kept s.kind s.thread b waiting) some);
    }

-- a number that was added at the end stands first in the reverse
pub reverse-push : (numbers : List ℕ) (n : ℕ) → reverse (numbers ++ n ∷ []) ≡ n ∷ reverse numbers
reverse-push numbers n = reverse-append numbers (n ∷ [])
