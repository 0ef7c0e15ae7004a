-- Flushes that are one line short.
use Rattle.std.proofs.Common.{◌≡◌, ◌≢◌, ℕ, zero, suc, ◌<◌, ◌≤◌, ◌⊎◌, inl, inr, Bool, true, false, List, [], length, get_or, Option, None, Some, refl, sym, ap, subst, ◌∙◌, arith}
use Rattle.std.specs.Prelude.{◌↔◌, ◌==◌, ◌&&◌, if◌then◌else◌, nat_lt, nat_le, slice_get}
use Rattle.std.proofs.lemmas.Bool.{cases_eq, cases_lt, cond_both, eq-eqb, ne_eqb, lt-ltb, le-ltb, le-leb, lt-leb, false≢true}
use Rattle.std.proofs.lemmas.Option.{slice_get-get_or}
use Rattle.pmt_laws.specs.Prelude.{Act, Stores, Flushes, Clflushes, Fences, Asserts, Recording, IsAct}
use Rattle.pmt_laws.proofs.Histories.{act-unique, act-within}
use Rattle.pmt_explain.specs.Following.{AreSafePlaces}
use Rattle.pmt_causes.specs.Late.{AreWaited}
use Rattle.pmt_hints.specs.declared.per_thread.PerThread.{PerThread}
use Rattle.pmt_hints.specs.GoingOn.{IsRest, GoesFurther, is_lost_or_late, last_by, line_by, line_if, short_so}
use Rattle.pmt_hints.specs.Hints.{AreThose, FencesBetween, GoesOn, IsLostOrLate, IsOneLineShort, IsStoreBy}
use Rattle.pmt_hints.specs.Numbers.{LastFlushes, flush_at, of_thread}
use Rattle.pmt_hints.proofs.GoingLemmas.{LinesUpTo, late-told}
use Rattle.pmt_hints.proofs.StepLemmas.{IsLast}
use Rattle.pmt_hints.proofs.StoredAfterLemmas.{FencesUpTo, store-act}

-- of an act that is no flush
none-short : (T : Recording) (labels : List (Option ℕ)) (i : ℕ) (a : Act) (b : Bool) → IsAct T i a → ((t l : ℕ) → a ≢ Flushes t l) → b ≡ false → (b ≡ true) ↔ IsOneLineShort T labels i
none-short T labels i a b is other off = (λ so. absurd (false≢true (sym off ∙ so)), λ h. absurd (other h.thread h.line (act-unique T i a (Flushes h.thread h.line) is h.is_flush)))

-- a store of the thread stands at another event than its fence
store-no_fence : (T : Recording) (t l k y : ℕ) → IsStoreBy T t l k → IsAct T y (Fences t) → k ≢ y
store-no_fence T t l k y s fence = λ same. (let e = act-unique T y (Fences t) (Stores l s.1) fence (subst (λ i. IsAct T i (Stores l s.1)) same (store-act T t l k s)) in cc)

-- by the last fence, and the last stores that go on from the line and from the next one
pub short-told : (T : Recording) (labels : List (Option ℕ)) (n : ℕ) (fences : PerThread) (rests further : LastFlushes) (b : Bool) (u : ℕ) (a : Act) → IsAct T (suc n) a → u < 256 → ((t l : ℕ) → a ≡ Flushes t l → t ≡ u) →
    b ≡ short_so fences rests further a → FencesUpTo T n fences → LinesUpTo (IsRest T labels) n rests → LinesUpTo (GoesFurther T labels) n further → (b ≡ true) ↔ IsOneLineShort T labels (suc n)
short-told T labels n fences rests further b u (Stores l w) is small by tells f g h = none-short T labels (suc n) (Stores l w) b is (λ t k x. cc) tells
short-told T labels n fences rests further b u (Clflushes l) is small by tells f g h = none-short T labels (suc n) (Clflushes l) b is (λ t k x. cc) tells
short-told T labels n fences rests further b u (Fences v) is small by tells f g h = none-short T labels (suc n) (Fences v) b is (λ t k x. cc) tells
short-told T labels n fences rests further b u Asserts is small by tells f g h = none-short T labels (suc n) Asserts b is (λ t k x. cc) tells
short-told T labels n fences rests further b u (Flushes t l) is small by tells f g h = rw tells (go (cases_lt y x) (cases_lt y z))
  where
    y : ℕ
    y = of_thread fences t

    x : ℕ
    x = flush_at rests t l

    z : ℕ
    z = flush_at further t l

    last_fence : IsLast (λ k. IsAct T k (Fences t)) n y
    last_fence = f t (let own : t ≡ u = by t l refl in omega (arith, own, small))

    last_rest : IsLast (IsRest T labels t l) n x
    last_rest = g t l

    last_further : IsLast (GoesFurther T labels t l) n z
    last_further = h t l

    -- a store by the last fence is fenced
    fenced : (k m : ℕ) → IsStoreBy T t m k → k ≤ y → FencesBetween T t k (suc n)
    fenced k m s upto =
        let fence : IsAct T y (Fences t) = last_fence.has (omega (arith, (act-within T k (Stores m s.1) (store-act T t m k s)).0)) in
        let apart : k ≢ y = store-no_fence T t m k y s fence in
        (y, omega (arith, apart), omega (arith, last_fence.within), fence)

    -- a later one is not
    open_still : (k : ℕ) → y < k → ¬ FencesBetween T t k (suc n)
    open_still k above = λ o. last_fence.none_after o.0 (omega (arith, o.1)) (omega (arith, o.2)) o.3

    rest_by : (i : IsOneLineShort T labels (suc n)) → (i.thread ≡ t) × (i.line ≡ l)
    rest_by i = let both = act-unique T (suc n) (Flushes t l) (Flushes i.thread i.line) is i.is_flush in (cc, cc)

    rest_at : (i : IsOneLineShort T labels (suc n)) → i.thread ≡ t → i.line ≡ l → IsRest T labels t l i.rest
    rest_at i thread line = subst (λ m. IsRest T labels t m i.rest) line (subst (λ v. IsRest T labels v i.line i.rest) thread (i.goes_on, i.missed))

    no_rest : x ≤ y → IsOneLineShort T labels (suc n) → ⊥
    no_rest upto i = go (cases_lt x i.rest)
      where
        own : (i.thread ≡ t) × (i.line ≡ l)
        own = rest_by i

        r : IsRest T labels t l i.rest
        r = rest_at i own.0 own.1

        go : (x < i.rest) ⊎ (i.rest ≤ x) → ⊥
        go (inl past) = last_rest.none_after i.rest past (omega (arith, i.earlier)) r
        go (inr within) = i.still_open (subst (λ v. FencesBetween T v i.rest (suc n)) (sym own.0) (fenced i.rest (suc l) (r.0).is_store (omega arith)))

    no_end : y < z → IsOneLineShort T labels (suc n) → ⊥
    no_end above i =
        let own = rest_by i in
        let on : GoesOn T labels t (suc l) z = last_further.has (omega arith) in
        let fence =
        i.ends z (subst (λ m. GoesOn T labels i.thread (suc m) z) (sym own.1) (subst (λ v. GoesOn T labels v (suc l) z) (sym own.0) on)) (omega (arith, last_further.within))
        in
        open_still z above (subst (λ v. FencesBetween T v z (suc n)) own.0 fence)

    go : (y < x) ⊎ (x ≤ y) → (y < z) ⊎ (z ≤ y) → ((nat_lt y x && nat_le z y) ≡ true) ↔ IsOneLineShort T labels (suc n)
    go (inr upto) either = (λ so. absurd (false≢true (sym (let off : (nat_lt y x && nat_le z y) ≡ false = rw (le-ltb y x upto) refl in off) ∙ so)), λ i. absurd (no_rest upto i))
    go (inl below) (inl above) =
        (λ so. absurd (false≢true (sym (let off : (nat_lt y x && nat_le z y) ≡ false = rw (lt-ltb y x below, lt-leb z y above) refl in off) ∙ so)), λ i. absurd (no_end above i))
    go (inl below) (inr within) = (λ _. told (last_rest.has (omega arith)), λ _. rw (lt-ltb y x below, le-leb z y within) refl)
      where
        upto : (k : ℕ) → GoesOn T labels t (suc l) k → k < suc n → (z < k) ⊎ (k ≤ z) → FencesBetween T t k (suc n)
        upto k on before (inl past) = absurd (last_further.none_after k past (omega arith) on)
        upto k on before (inr by_then) = fenced k (suc (suc l)) on.is_store (omega arith)

        told : IsRest T labels t l x → IsOneLineShort T labels (suc n)
        told r = record {
          thread = t;
          line = l;
          rest = x;
          is_flush = is;
          goes_on = r.0;
          missed = r.1;
          earlier = omega (arith, last_rest.within);
          still_open = open_still x below;
          ends = λ k on before. upto k on before (cases_lt z k);
        }

-- what goes on and is missed comes no later than the last one of the thread that goes on
pub lasts-up : (Q : ℕ → ℕ → ℕ → Type 0) (n number u : ℕ) (missed : Bool) (line : Option ℕ) (rests new : LastFlushes) (lasts more : PerThread) → number ≡ suc n → LinesUpTo Q n rests →
    ((t l : ℕ) → flush_at new t l ≡ line_by (line_if missed line) u number t l (flush_at rests t l)) → ((t : ℕ) → t < 256 → of_thread more t ≡ last_by line u number t (of_thread lasts t)) →
    ((t l : ℕ) → t < 256 → flush_at rests t l ≤ of_thread lasts t) → (t l : ℕ) → t < 256 → flush_at new t l ≤ of_thread more t
lasts-up Q n number u missed line rests new lasts more same upto noted last bound t l small = rw (noted t l, last t small) (go missed line)
  where
    x : ℕ
    x = flush_at rests t l

    within : x ≤ n
    within = (upto t l).within

    one : (k : ℕ) → (if u == t && k == l then number else x) ≤ (if u == t then number else of_thread lasts t)
    one k = own (cases_eq u t)
      where
        own : (u ≡ t) ⊎ (u ≢ t) → (if u == t && k == l then number else x) ≤ (if u == t then number else of_thread lasts t)
        own (inl e) = rw (eq-eqb u t e) (cond_both (k == l) number x (λ z. z ≤ number) (λ _. omega arith) (λ _. omega (arith, within, same)))
        own (inr apart) = rw (ne_eqb u t apart) (bound t l small)

    off : (k : ℕ) → x ≤ (if u == t then number else of_thread lasts t)
    off k = cond_both (u == t) number (of_thread lasts t) (λ z. x ≤ z) (λ _. omega (arith, within, same)) (λ _. bound t l small)

    go : (missed : Bool) (line : Option ℕ) → line_by (line_if missed line) u number t l x ≤ last_by line u number t (of_thread lasts t)
    go true None = bound t l small
    go false None = bound t l small
    go true (Some k) = one k
    go false (Some k) = off k

-- what is told is an event of the trace
pub short-bound : (T : Recording) (labels : List (Option ℕ)) (i : ℕ) → IsOneLineShort T labels i → (1 ≤ i) × (i ≤ length T.events)
short-bound T labels i h = act-within T i (Flushes h.thread h.line) h.is_flush

-- where no store that is lost or late goes on
pub none-goes : (T : Recording) (labels : List (Option ℕ)) → ((t l i : ℕ) → ¬ IsRest T labels t l i) → AreThose (IsOneLineShort T labels) []
none-goes T labels none = record { rising = tt; just = λ i. (λ h. absurd h, λ h. absurd (none h.thread h.line h.rest (h.goes_on, h.missed))) }

-- where no store is lost or late
pub none-missed : (T : Recording) (labels : List (Option ℕ)) (safe waited : List ℕ) → AreSafePlaces T safe → AreWaited T waited →
    ((k w s : ℕ) → slice_get waited k ≡ Some w → slice_get safe k ≡ Some s → is_lost_or_late w s (length safe) ≡ false) → AreThose (IsOneLineShort T labels) []
none-missed T labels safe waited are_safe are_waited none = record { rising = tt; just = λ i. (λ h. absurd h, λ h. absurd (never h.rest (suc h.line) h.thread (h.goes_on).is_store h.missed)) }
  where
    never : (r l t : ℕ) → IsStoreBy T t l r → IsLostOrLate T t l r → ⊥
    never zero l t s late = absurd (omega (arith, (act-within T zero (Stores l s.1) (store-act T t l zero s)).0))
    never (suc k) l t s late =
        let within : k < length T.events = omega (arith, (act-within T (suc k) (Stores l s.1) (store-act T t l (suc k) s)).1) in
        let w = get_or waited k 0 in
        let p = get_or safe k 0 in
        let at_w : slice_get waited k ≡ Some w = slice_get-get_or waited k 0 (omega (arith, within, are_waited.size)) in
        let at_s : slice_get safe k ≡ Some p = slice_get-get_or safe k 0 (omega (arith, within, are_safe.size)) in
        let is : is_lost_or_late w p (length T.events) ≡ true = (late-told T safe waited t l k p w are_safe are_waited at_s at_w s).1 late in
        false≢true (sym (none k w p at_w at_s) ∙ ap (is_lost_or_late w p) are_safe.size ∙ is)
