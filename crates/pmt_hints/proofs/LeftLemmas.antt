-- Stores that a fence of their thread leaves unsafe, and those that are never safe.
use Rattle.std.proofs.Common.{◌≡◌, ◌≢◌, ℕ, zero, suc, ◌<◌, ◌≤◌, ◌⊎◌, inl, inr, Bool, true, false, List, [], ◌+◌, ◌-◌, length, get_or, Some, refl, sym, ap, subst, ◌∙◌, arith}
use Rattle.std.specs.Prelude.{◌↔◌, ◌==◌, ◌&&◌, if◌then◌else◌, nat_le, nat_lt, slice_get}
use Rattle.std.proofs.lemmas.Bool.{and_parts, cases_lt, cases_eq, eq-eqb, le-leb, le-ltb, lt-leb, lt-ltb, true≢false}
use Rattle.std.proofs.lemmas.Option.{slice_get-get_or}
use Rattle.pmt_explain.specs.Prelude.{Op, Store, Clwb, ClflushOpt, Clflush, Sfence, Mfence, IsPersist, IsOrderedBefore, Event, Layout, Written, Act, Asserts, Clflushes, Fences, Flushes, Stores, Recording, IsAct, act, act_of, event, IsCause, IsUnflushed, Cause, Later, Unflushed, IsFlushOf}
use Rattle.pmt_laws.proofs.Histories.{act-unique, act-within}
use Rattle.pmt_reasons.proofs.CauseLaws.{cause_exists}
use Rattle.pmt_explain.specs.Following.{AreSafePlaces, IsSafePlace, IsFenceAfter, IsFirst, past_of, AreNextFlushes, AreOwnFences, ByStore, IsNextFlush}
use Rattle.pmt_explain.proofs.FirstLemmas.{first-same}
use Rattle.pmt_explain.proofs.UpcomingLemmas.{next-on}
use Rattle.pmt_causes.specs.Late.{counted, AreWaited, fences_between, is_fence, is_fence_of}
use Rattle.pmt_causes.proofs.CountedLemmas.{counted-mono}
use Rattle.pmt_hints.specs.Hints.{AreThose, FencesBetween, IsAfterOpenFlush, IsStoredAfterFlush}
use Rattle.pmt_hints.specs.Claiming.{left_unsafe}
use Rattle.pmt_hints.specs.Leaving.{AreEnds, is_ended, is_fenced_first, is_left_first}
use Rattle.pmt_hints.specs.Numbers.{LastFlushes, after_open, flush_at, flush_by}
use Rattle.pmt_hints.proofs.GoingLemmas.{LinesUpTo, first-one, waits-told}
use Rattle.pmt_hints.proofs.OpenAtLemmas.{flush-thread}
use Rattle.pmt_hints.proofs.StepLemmas.{Decides, IsLast, flush-decides, last-step}
use Rattle.pmt_hints.proofs.StoredAfterLemmas.{fence-no_flush, flush-within, none-told, own-store, store-act, stored-bound}

abbrev one : Bool → ℕ
one b = if b then 1 else 0

-- a number that passes is counted
counted-some : (f : ℕ → Bool) (k n : ℕ) → suc k ≤ n → f (suc k) ≡ true → 1 ≤ counted f n
counted-some f k n within passes =
    let own : one (f (suc k)) ≡ one true = ap one passes in
    omega (arith, counted-mono f (suc k) n within, own)

op-fence : (f : Layout) (u t : ℕ) (o : Op) → act_of f u o ≡ Fences t → ((u == t) && is_fence o) ≡ true
op-fence f u t (Store w) is = absurd (cc)
op-fence f u t (Clwb a) is = absurd (cc)
op-fence f u t (ClflushOpt a) is = absurd (cc)
op-fence f u t (Clflush a) is = absurd (cc)
op-fence f u t Sfence is = let e : u ≡ t = cc in rw (eq-eqb u t e) refl
op-fence f u t Mfence is = let e : u ≡ t = cc in rw (eq-eqb u t e) refl
op-fence f u t (IsPersist r) is = absurd (cc)
op-fence f u t (IsOrderedBefore r q) is = absurd (cc)

fence-so : (T : Recording) (t k : ℕ) → IsAct T k (Fences t) → is_fence_of T t k ≡ true
fence-so T t k (e, at, own) = rw at (op-fence T.format e.thread t e.op own)

-- a fence after the store and before the place counts
some-between : (T : Recording) (t i p k : ℕ) → i < k → k < p → IsAct T k (Fences t) → 1 ≤ fences_between T t i p
some-between T t i p zero after before fence = absurd (omega (arith, after))
some-between T t i p (suc k) after before fence =
    counted-some (λ m. nat_lt i m && (nat_lt m p && is_fence_of T t m)) k (length T.events) (act-within T (suc k) (Fences t) fence).1 (rw (lt-ltb i (suc k) after, lt-ltb (suc k) p before) (fence-so T t (suc k) fence))

-- neither
unsafe-not : (w s n : ℕ) → left_unsafe w s n ≡ false → (w < 1) × (s ≤ n)
unsafe-not w s n off = go (cases_lt w 1) (cases_lt n s)
  where
    go : (w < 1) ⊎ (1 ≤ w) → (n < s) ⊎ (s ≤ n) → (w < 1) × (s ≤ n)
    go (inl none) (inr within) = (none, within)
    go (inr one) past = absurd (true≢false (sym (let on : left_unsafe w s n ≡ true = rw (le-leb 1 w one) refl in on) ∙ off))
    go (inl none) (inl past) = absurd (true≢false (sym (let on : left_unsafe w s n ≡ true = (let low : nat_le 1 w ≡ false = lt-leb 1 w none in rw (low, lt-ltb n s past) refl) in on) ∙ off))

-- without a fence of its thread by its safe place, a flush that saves it stands before that thread's next fence
pub none-left : (T : Recording) (safe waited : List ℕ) (n s w : ℕ) → AreSafePlaces T safe → AreWaited T waited → slice_get safe n ≡ Some s → slice_get waited n ≡ Some w → left_unsafe w s (length T.events) ≡ false → ¬ IsStoredAfterFlush T (suc n)
none-left T safe waited n s w are_safe are_waited at_s at_w off h = place.has (omega (arith, both.1)) ((cause_exists T l s i what is_store).1 (cause (cases_lt s i)))
  where
    i : ℕ
    i = suc n

    l : ℕ
    l = h.after.line

    t : ℕ
    t = h.after.thread

    what : Written
    what = h.after.is_store.1

    is_store : IsAct T i (Stores l what)
    is_store = store-act T t l i h.after.is_store

    both : (w < 1) × (s ≤ length T.events)
    both = unsafe-not w s (length T.events) off

    place : IsSafePlace T l i s
    place = are_safe.each n s at_s l what is_store

    fences : w ≡ fences_between T t i s
    fences = waits-told T safe waited t l n s w are_safe are_waited at_s at_w h.after.is_store

    unflushed : IsUnflushed T l i s
    unflushed k after upto flush =
        let f = h.not_again k after flush in
        omega (arith, both.0, fences, some-between T t i s f.0 f.1 (omega (arith, f.2, upto)) f.3)

    cause : (s < i) ⊎ (i ≤ s) → (c : Cause) × IsCause T l s i c
    cause (inl later) = (Later, later)
    cause (inr from) = (Unflushed, (from, unflushed))

-- where no store is left unsafe
pub none-unsafe : (T : Recording) (safe waited : List ℕ) → AreSafePlaces T safe → AreWaited T waited → ((k w s : ℕ) → slice_get waited k ≡ Some w → slice_get safe k ≡ Some s → left_unsafe w s (length safe) ≡ false) → AreThose (IsStoredAfterFlush T) []
none-unsafe T safe waited are_safe are_waited none = record { rising = tt; just = λ i. (λ h. absurd h, λ h. absurd (never i h)) }
  where
    never : (i : ℕ) → IsStoredAfterFlush T i → ⊥
    never zero h = absurd (omega (arith, (stored-bound T zero h).0))
    never (suc k) h =
        let within : k < length T.events = omega (arith, (stored-bound T (suc k) h).1) in
        let w = get_or waited k 0 in
        let p = get_or safe k 0 in
        let at_w : slice_get waited k ≡ Some w = slice_get-get_or waited k 0 (omega (arith, within, are_waited.size)) in
        let at_s : slice_get safe k ≡ Some p = slice_get-get_or safe k 0 (omega (arith, within, are_safe.size)) in
        none-left T safe waited k p w are_safe are_waited at_s at_w (sym (ap (left_unsafe w p) are_safe.size) ∙ none k w p at_w at_s) h

-- a store that is told is left unsafe
must-left : (T : Recording) (waited safe : List ℕ) (n : ℕ) → AreSafePlaces T safe → AreWaited T waited → IsStoredAfterFlush T (suc n) → left_unsafe (get_or waited n 0) (get_or safe n 0) (length safe) ≡ true
must-left T waited safe n are_safe are_waited h = go (left_unsafe (get_or waited n 0) (get_or safe n 0) (length safe)) refl
  where
    within : n < length T.events
    within = omega (arith, (stored-bound T (suc n) h).1)

    go : (b : Bool) → left_unsafe (get_or waited n 0) (get_or safe n 0) (length safe) ≡ b → left_unsafe (get_or waited n 0) (get_or safe n 0) (length safe) ≡ true
    go true e = e
    go false e =
        absurd (none-left T safe waited n (get_or safe n 0) (get_or waited n 0) are_safe are_waited (slice_get-get_or safe n 0 (omega (arith, within, are_safe.size))) (slice_get-get_or waited n 0 (omega (arith, within, are_waited.size)))
        (sym (ap (left_unsafe (get_or waited n 0) (get_or safe n 0)) are_safe.size) ∙ e) h)

-- it is told by the next fence and the next flush
fenced-told : (T : Recording) (fences flushes : List ℕ) (n : ℕ) → AreOwnFences T fences → AreNextFlushes T flushes → IsAfterOpenFlush T (suc n) → (is_fenced_first fences flushes (suc n) ≡ true) ↔ IsStoredAfterFlush T (suc n)
fenced-told T fences flushes n are_fences are_flushes o = subst (λ (b : Bool). (b ≡ true) ↔ IsStoredAfterFlush T (suc n)) (sym value) (go (cases_lt x y))
  where
    t : ℕ
    t = o.thread

    x : ℕ
    x = get_or flushes n 0

    y : ℕ
    y = get_or fences n 0

    here : suc n - 1 ≡ n
    here = omega arith

    value : is_fenced_first fences flushes (suc n) ≡ nat_le y x
    value = ap (λ k. nat_le (get_or fences k 0) (get_or flushes k 0)) here

    is_store : IsAct T (suc n) (Stores o.line o.is_store.1)
    is_store = store-act T t o.line (suc n) o.is_store

    within : n < length T.events
    within = omega (arith, (act-within T (suc n) (Stores o.line o.is_store.1) is_store).1)

    next_fence : IsFirst (IsFenceAfter T t (suc n)) (past_of T) y
    next_fence = subst (λ u. IsFirst (IsFenceAfter T u (suc n)) (past_of T) y) o.is_store.3 (are_fences.each n y o.is_store.0 (slice_get-get_or fences n 0 (omega (arith, are_fences.size, within))) o.is_store.2)

    next_flush : IsNextFlush T o.line (suc n) x
    next_flush = subst (λ k. IsNextFlush T o.line (suc n) (get_or flushes k 0)) here (next-on T flushes (suc n) o.line 0 are_flushes (ByStore o.is_store.1 is_store))

    go : (x < y) ⊎ (y ≤ x) → (nat_le y x ≡ true) ↔ IsStoredAfterFlush T (suc n)
    go (inl before) = (λ so. absurd (true≢false (sym so ∙ lt-leb y x before)), λ h. absurd (other h))
      where
        other : IsStoredAfterFlush T (suc n) → ⊥
        other h =
            let mine = own-store T (suc n) h.after.thread h.after.line o.is_store.0 o.is_store.2 h.after.is_store in
            let both : Stores o.line o.is_store.1 ≡ Stores h.after.line h.after.is_store.1 = sym o.is_store.4 ∙ mine.1 in
            let line : o.line ≡ h.after.line = cc in
            let flush = next_flush.has (omega (arith, next_fence.within, before)) in
            let fence = h.not_again x flush.0 (subst (λ m. IsFlushOf T m x) line flush.1) in
            next_fence.none_before fence.0 (omega (arith, fence.2, before)) (fence.1, subst (λ u. IsAct T fence.0 (Fences u)) (sym mine.0 ∙ o.is_store.3) fence.3)
    go (inr upto) = (λ _. record { after = o; not_again = λ k later flush. again k later flush (cases_lt k x) }, λ _. le-leb y x upto)
      where
        again : (k : ℕ) → suc n < k → IsFlushOf T o.line k → (k < x) ⊎ (x ≤ k) → FencesBetween T t (suc n) k
        again k later flush (inl early) = absurd (next_flush.none_before k early (later, flush))
        again k later flush (inr from) =
            let fence = next_fence.has (omega (arith, flush-within T o.line k flush, upto, from)) in
            let apart : k ≢ y = λ same. fence-no_flush T t o.line y fence.1 (subst (IsFlushOf T o.line) same flush) in
            (y, fence.0, omega (arith, apart, upto, from), fence.1)

-- the next own fence of an event
own-fence : (T : Recording) (fences : List ℕ) (t i : ℕ) (a : Act) → AreOwnFences T fences → (is : IsAct T i a) → (is.0).thread ≡ t → IsFirst (IsFenceAfter T t i) (past_of T) (get_or fences (i - 1) 0)
own-fence T fences t zero a x is own = absurd (omega (arith, (act-within T zero a is).0))
own-fence T fences t (suc n) a x is own =
    let here : n ≡ suc n - 1 = omega arith in
    let at : slice_get fences n ≡ Some (get_or fences n 0) = slice_get-get_or fences n 0 (omega (arith, x.size, (act-within T (suc n) a is).1)) in
    subst (λ k. IsFirst (IsFenceAfter T t (suc n)) (past_of T) (get_or fences k 0)) here (subst (λ u. IsFirst (IsFenceAfter T u (suc n)) (past_of T) (get_or fences n 0)) own (x.each n (get_or fences n 0) is.0 at is.1))

-- of a flush and a store after it, with no fence of their thread between them
same-fence : (T : Recording) (t f s p q : ℕ) → f < s → ¬ FencesBetween T t f s → ¬ IsAct T s (Fences t) → IsFirst (IsFenceAfter T t f) (past_of T) p → IsFirst (IsFenceAfter T t s) (past_of T) q → p ≡ q
same-fence T t f s p q before none is_none x y =
    first-one (IsFenceAfter T t f) (past_of T) p q x (first-same (IsFenceAfter T t s) (IsFenceAfter T t f) (past_of T) q (λ k h. (omega (arith, h.0, before), h.1)) (λ k h. (after k h (cases_lt s k) (cases_eq k s), h.1)) y)
  where
    after : (k : ℕ) → IsFenceAfter T t f k → (s < k) ⊎ (k ≤ s) → (k ≡ s) ⊎ (k ≢ s) → s < k
    after k h (inl later) either = later
    after k h (inr upto) (inl e) = absurd (is_none (subst (λ j. IsAct T j (Fences t)) e h.1))
    after k h (inr upto) (inr apart) = absurd (none (k, h.0, omega (arith, upto, apart), h.1))

-- the flags of fences that may come next after such a store, and one store more
abbrev is_end : List Bool → ℕ → Bool
is_end ends number = get_or ends number true

pub ends-more : (waited safe fences flushes : List ℕ) (n : ℕ) (old new : List Bool) → ((j : ℕ) → is_end old j ≡ true → is_end new j ≡ true) → (is_left_first waited safe fences flushes n ≡ true → is_end new (get_or fences n 0) ≡ true) →
    AreEnds waited safe fences flushes n old → AreEnds waited safe fences flushes (n + 1) new
ends-more waited safe fences flushes n old new stays own x = λ k below left. elim (cases_lt k n) [
  | inl early ↦ stays (get_or fences k 0) (x k early left)
  | inr from ↦ let e : n ≡ k = omega (arith, below, from) in subst (λ j. is_end new (get_or fences j 0) ≡ true) e (own (subst (λ j. is_left_first waited safe fences flushes j ≡ true) (sym e) left))
]

-- a flush that waits for a fence that may come next after such a store, and the last one of each line by each thread
abbrev Ended : Recording → List ℕ → List Bool → ℕ → ℕ → ℕ → Type 0
Ended T fences ends t l k = IsAct T k (Flushes t l) × (is_end ends (get_or fences (k - 1) 0) ≡ true)

abbrev pub EndedUpTo : Recording → List ℕ → List Bool → ℕ → LastFlushes → Type 0
EndedUpTo T fences ends n last = LinesUpTo (Ended T fences ends) n last

ended-decides : (T : Recording) (fences : List ℕ) (ends : List Bool) (n number t l x : ℕ) (a : Act) (b : Bool) → number ≡ suc n → IsAct T (suc n) a → b ≡ is_ended ends fences number a →
    Decides (Ended T fences ends t l) (suc n) x (if b then flush_by a number t l x else x)
ended-decides T fences ends n number t l x a b same is told = go b told
  where
    value : IsAct T (suc n) (Flushes t l) → is_ended ends fences number a ≡ is_end ends (get_or fences (suc n - 1) 0)
    value flush = ap (is_ended ends fences number) (act-unique T (suc n) a (Flushes t l) is flush) ∙ ap (λ k. is_end ends (get_or fences (k - 1) 0)) same

    go : (b : Bool) → b ≡ is_ended ends fences number a → Decides (Ended T fences ends t l) (suc n) x (if b then flush_by a number t l x else x)
    go true told = elim (flush-decides T n number t l x a same is) [ inl here ↦ inl ((here.0, sym (told ∙ value here.0)), here.1) | inr over ↦ inr (λ p. over.0 p.0, over.1) ]
    go false told = inr (λ p. true≢false (sym (told ∙ value p.0 ∙ p.1)), refl)

pub ended-up : (T : Recording) (fences : List ℕ) (ends : List Bool) (n number : ℕ) (a : Act) (b : Bool) (old new : LastFlushes) → number ≡ suc n → IsAct T (suc n) a → b ≡ is_ended ends fences number a →
    ((t l : ℕ) → flush_at new t l ≡ (if b then flush_by a number t l (flush_at old t l) else flush_at old t l)) → EndedUpTo T fences ends n old → EndedUpTo T fences ends (n + 1) new
ended-up T fences ends n number a b old new same is told noted x =
    let next : suc n ≡ n + 1 = omega arith in
    subst (λ m. EndedUpTo T fences ends m new) next
    (λ t l. subst (IsLast (Ended T fences ends t l) (suc n)) (sym (noted t l)) (last-step (Ended T fences ends t l) n _ _ (ended-decides T fences ends n number t l (flush_at old t l) a b same is told) (x t l)))

module _ (T : Recording) (waited safe fences flushes : List ℕ) (are_safe : AreSafePlaces T safe) (are_waited : AreWaited T waited) (are_fences : AreOwnFences T fences) (are_flushes : AreNextFlushes T flushes) where
  must-first : (n : ℕ) → IsStoredAfterFlush T (suc n) → is_left_first waited safe fences flushes n ≡ true
  must-first n h = ap (λ b. b && is_fenced_first fences flushes (suc n)) (must-left T waited safe n are_safe are_waited h) ∙ (fenced-told T fences flushes n are_fences are_flushes h.after).1 h

  -- where none of the stores that are left unsafe is fenced first
  pub none-first : ((k : ℕ) → k < length safe → is_left_first waited safe fences flushes k ≡ false) → AreThose (IsStoredAfterFlush T) []
  none-first none = record { rising = tt; just = λ i. (λ h. absurd h, λ h. absurd (never i h)) }
    where
      never : (i : ℕ) → IsStoredAfterFlush T i → ⊥
      never zero h = omega (arith, (stored-bound T zero h).0)
      never (suc n) h = true≢false (sym (must-first n h) ∙ none n (omega (arith, (stored-bound T (suc n) h).1, are_safe.size)))

  module _ (ends : List Bool) (are_ends : AreEnds waited safe fences flushes (length safe) ends) (n : ℕ) (e : Event) (last : LastFlushes) (here : event T (suc n) ≡ Some e) (x : EndedUpTo T fences ends n last) (left : is_left_first waited safe fences flushes n ≡ true) where
    -- by the last flush and its next fence
    open-by : (l : ℕ) (w : Written) (b : Bool) → act T.format e ≡ Stores l w → b ≡ after_open fences last (suc n) (Stores l w) e.thread → (b ≡ true) ↔ IsAfterOpenFlush T (suc n)
    open-by l w b is tells = rw tells (go (cases_lt f 1) (cases_lt (suc n) y))
      where
        t : ℕ
        t = e.thread

        f : ℕ
        f = flush_at last t l

        y : ℕ
        y = get_or fences (f - 1) 0

        store : IsAct T (suc n) (Stores l w)
        store = (e, here, is)

        within : suc n ≤ length T.events
        within = (act-within T (suc n) (Stores l w) store).1

        last_flush : IsLast (Ended T fences ends t l) n f
        last_flush = x t l

        fence_of : (k : ℕ) → IsAct T k (Flushes t l) → IsFirst (IsFenceAfter T t k) (past_of T) (get_or fences (k - 1) 0)
        fence_of k flush = own-fence T fences t k (Flushes t l) are_fences flush (sym (flush-thread T.format (flush.0).thread (flush.0).op t l flush.2))

        no_fence : ¬ IsAct T (suc n) (Fences t)
        no_fence fence = let clash = act-unique T (suc n) (Fences t) (Stores l w) fence store in cc

        by_flush : (k : ℕ) → IsAct T k (Flushes t l) → k < suc n → ¬ FencesBetween T t k (suc n) → (1 ≤ f) × (suc n < y)
        by_flush k flush before none = by (cases_lt f k)
          where
            at : suc n - 1 ≡ n
            at = omega arith

            end : is_end ends (get_or fences (k - 1) 0) ≡ true
            end = ap (is_end ends) (same-fence T t k (suc n) _ _ before none no_fence (fence_of k flush) (own-fence T fences t (suc n) (Stores l w) are_fences store refl) ∙ ap (λ j. get_or fences j 0) at) ∙ are_ends n (omega (arith, within, are_safe.size)) left

            by : (f < k) ⊎ (k ≤ f) → (1 ≤ f) × (suc n < y)
            by (inl past) = absurd (last_flush.none_after k past (omega (arith, before)) (flush, end))
            by (inr upto) = (some, later (cases_lt (suc n) y))
              where
                some : 1 ≤ f
                some = omega (arith, (act-within T k (Flushes t l) flush).0, upto)

                later : (suc n < y) ⊎ (y ≤ suc n) → suc n < y
                later (inl after) = after
                later (inr from) =
                    let fence : IsFenceAfter T t f y = (fence_of f (last_flush.has (omega (arith, some))).0).has (omega (arith, from, within)) in
                    let apart : y ≢ suc n = λ same. no_fence (subst (λ j. IsAct T j (Fences t)) same fence.1) in
                    absurd (none (y, omega (arith, upto, fence.0), omega (arith, from, apart), fence.1))

        must : IsAfterOpenFlush T (suc n) → (1 ≤ f) × (suc n < y)
        must h =
            let own = own-store T (suc n) h.thread h.line e here h.is_store in
            let both : Stores l w ≡ Stores h.line h.is_store.1 = sym is ∙ own.1 in
            let line : h.line ≡ l = cc in
            let thread : h.thread ≡ t = sym own.0 in
            by_flush h.flush (subst (λ m. IsAct T h.flush (Flushes t m)) line (subst (λ u. IsAct T h.flush (Flushes u h.line)) thread h.is_flush)) h.earlier (subst (λ u. ¬ FencesBetween T u h.flush (suc n)) thread h.still_open)

        go : (f < 1) ⊎ (1 ≤ f) → (suc n < y) ⊎ (y ≤ suc n) → ((nat_le 1 f && nat_lt (suc n) y) ≡ true) ↔ IsAfterOpenFlush T (suc n)
        go (inl none) either = (λ so. absurd (true≢false (sym so ∙ ap (λ b. b && nat_lt (suc n) y) (lt-leb 1 f none))), λ h. absurd (omega (arith, none, (must h).0)))
        go (inr some) (inr from) = (
          λ so. absurd (true≢false (sym so ∙ ap (λ b. b && nat_lt (suc n) y) (le-leb 1 f some) ∙ le-ltb (suc n) y from)),
          λ h. absurd (omega (arith, from, (must h).1)),
        )
        go (inr some) (inl after) =
            let flush : IsAct T f (Flushes t l) = (last_flush.has (omega (arith, some))).0 in (
              λ _. record {
                thread = t;
                line = l;
                flush = f;
                is_store = (e, w, here, refl, is);
                is_flush = flush;
                earlier = omega (arith, last_flush.within);
                still_open = λ k. (fence_of f flush).none_before k.0 (omega (arith, k.2, after)) (k.1, k.3);
              },
              λ _. ap (λ b. b && nat_lt (suc n) y) (le-leb 1 f some) ∙ lt-ltb (suc n) y after,
            )

    open-told : (a : Act) (b : Bool) → act T.format e ≡ a → b ≡ after_open fences last (suc n) a e.thread → (b ≡ true) ↔ IsAfterOpenFlush T (suc n)
    open-told (Stores l w) b is tells = open-by l w b is tells
    open-told (Flushes u k) b is tells = none-told T (suc n) e (Flushes u k) b here is (λ l w x. cc) tells
    open-told (Clflushes k) b is tells = none-told T (suc n) e (Clflushes k) b here is (λ l w x. cc) tells
    open-told (Fences u) b is tells = none-told T (suc n) e (Fences u) b here is (λ l w x. cc) tells
    open-told Asserts b is tells = none-told T (suc n) e Asserts b here is (λ l w x. cc) tells

  -- whether an event is told
  pub stored-told : (ends : List Bool) → AreEnds waited safe fences flushes (length safe) ends → (n number : ℕ) (e : Event) (last : LastFlushes) (a : Act) (left b : Bool) → number ≡ suc n → event T (suc n) ≡ Some e → act T.format e ≡ a → left ≡ is_left_first waited safe fences flushes n →
      b ≡ (left && after_open fences last number a e.thread) → EndedUpTo T fences ends n last → (b ≡ true) ↔ IsStoredAfterFlush T (suc n)
  stored-told ends are_ends n number e last a false b same here is left tells x = (λ so. absurd (true≢false (sym so ∙ tells)), λ h. absurd (true≢false (sym (left ∙ must-first n h))))
  stored-told ends are_ends n number e last a true b same here is left tells x =
      let told = open-told ends are_ends n e last here x (sym left) a b is (tells ∙ ap (λ k. after_open fences last k a e.thread) same) in
      let first : is_fenced_first fences flushes (suc n) ≡ true = (and_parts _ _ (sym left)).1 in
      (λ so. (fenced-told T fences flushes n are_fences are_flushes (told.0 so)).0 first, λ h. told.1 h.after)
