-- Which store is safe last by a place, and the next fence of a thread, event by event.
use Rattle.pmt_fates.proofs.Prelude.{◌≡◌, ◌≢◌, ℕ, zero, suc, ◌+◌, ◌<◌, ◌≤◌, ◌⊎◌, inl, inr, true, false, List, [], ◌∷◌, ◌++◌, length, length-append, get_or, set, get_or-set_same, get_or-set_other, Some, refl, sym, ap, subst, ◌∙◌, arith, ◌==◌, if◌then◌else◌, nat_lt, replicate, slice_get, unwrap_or, cases_lt, cases_eq, ne_eqb, lt-ltb, le-ltb, false≢true, length-set, length-replicate, none-some, same_Some, slice_get-get_or, get_or_from_slice_get, slice_get_within, slice_get_past, Event, Op, Store, Clwb, ClflushOpt, Clflush, Sfence, Mfence, IsPersist, IsOrderedBefore, Layout, Written, line_of, Act, Stores, Flushes, Clflushes, Fences, Asserts, Recording, IsAct, act_of, event, act-unique, act-within, event-some, IsFenceAfter, IsFirst, past_of, AreSafePlaces, IsSafePlace, TellsSafe, AreOwnFences, get-before, get-last, Fate, Claim, Left, fate_at, is_same, IsOwnFence, IsSavedAt, TellsSaved, AreLast, AreSavers, IsLastBefore, IsSaver, saved_by, saved_if, with_saver}
use Rattle.pmt_fates.specs.declared.saved_before.Savings.{Savings}

-- there is one first number
first-unique : (P : ℕ → Type 0) (past a b : ℕ) → IsFirst P past a → IsFirst P past b → a ≡ b
first-unique P past a b x y = elim (cases_lt a b) [
  | inl less ↦ absurd (y.none_before a less (x.has (omega (arith, y.within))))
  | inr upto ↦ elim (cases_lt b a) [ inl less ↦ absurd (x.none_before b less (y.has (omega (arith, x.within)))) | inr same ↦ omega arith ]
]

-- and one safe place of a store
saved-unique : (T : Recording) (k p q : ℕ) → IsSavedAt T k p → IsSavedAt T k q → p ≡ q
saved-unique T k p q x y =
    let same = act-unique T k (Stores x.0 x.1) (Stores y.0 y.1) x.2 y.2 in
    let line : y.0 ≡ x.0 = cc in
    first-unique _ (past_of T) p q x.3 (subst (λ l. IsSafePlace T l k q) line y.3)

saved-within : (T : Recording) (k p : ℕ) → IsSavedAt T k p → (1 ≤ k) × (k ≤ length T.events)
saved-within T k p x = act-within T k (Stores x.0 x.1) x.2

-- no store yet
pub savers-start : (T : Recording) (n : ℕ) (savers : List ℕ) → n ≡ past_of T → savers ≡ replicate n 0 → AreSavers T 0 savers
savers-start T n savers size is = record {
  size = ap (λ (xs : List ℕ). length xs) is ∙ length-replicate n 0 ∙ size;
  each = λ q x at. inl (none n q x (ap (λ (xs : List ℕ). slice_get xs q) (sym is) ∙ at), λ j upto saved. absurd (omega (arith, (saved-within T j q saved).0)));
}
  where
    none : (m k x : ℕ) → slice_get (replicate m 0) k ≡ Some x → x ≡ 0
    none zero k x at = absurd (none-some x at)
    none (suc m) zero x at = sym (same_Some 0 x at)
    none (suc m) (suc k) x at = none m k x at

-- an event more that is not safe from the place on
saver-over : (T : Recording) (n q x : ℕ) → ¬ IsSavedAt T (suc n) q → IsSaver T n q x → IsSaver T (suc n) q x
saver-over T n q x other (inl none) = inl (none.0, λ j upto saved. by j saved (cases_lt n j) upto)
  where
    by : (j : ℕ) → IsSavedAt T j q → (n < j) ⊎ (j ≤ n) → j ≤ suc n → ⊥
    by j saved (inl past) upto = let e : j ≡ suc n = omega arith in other (subst (λ i. IsSavedAt T i q) e saved)
    by j saved (inr early) upto = none.1 j early saved
saver-over T n q x other (inr some) = inr (omega (arith, some.0), some.1, λ j upto saved. by j saved (cases_lt n j) upto)
  where
    by : (j : ℕ) → IsSavedAt T j q → (n < j) ⊎ (j ≤ n) → j ≤ suc n → j ≤ x
    by j saved (inl past) upto = let e : j ≡ suc n = omega arith in absurd (other (subst (λ i. IsSavedAt T i q) e saved))
    by j saved (inr early) upto = some.2 j early saved

-- one more event
pub savers-next : (T : Recording) (n number s u : ℕ) (f : Layout) (o : Op) (old new : List ℕ) → IsAct T (suc n) (act_of f u o) → TellsSafe T (suc n) s → number ≡ suc n → new ≡ with_saver o s number old →
    AreSavers T n old → AreSavers T (n + 1) new
savers-next T n number s u f o old new is safe same made x = let next : suc n ≡ n + 1 = omega arith in subst (λ m. AreSavers T m new) next (subst (AreSavers T (suc n)) (sym made) (by_op o is))
  where
    other : (a : Act) → IsAct T (suc n) a → ((l : ℕ) (w : Written) → a ≢ Stores l w) → AreSavers T (suc n) old
    other a is no_store = record { size = x.size; each = λ q y at. saver-over T n q y (λ saved. no_store saved.0 saved.1 (act-unique T (suc n) a (Stores saved.0 saved.1) is saved.2)) (x.each q y at) }

    stored : (l : ℕ) (w : Written) → IsAct T (suc n) (Stores l w) → AreSavers T (suc n) (if nat_lt s (length old) then set old s number else old)
    stored l w is = go (cases_lt s (length old))
      where
        here : IsSavedAt T (suc n) s
        here = (l, w, is, safe l w is)

        apart : (q y : ℕ) → s ≢ q → IsSaver T n q y → IsSaver T (suc n) q y
        apart q y e = saver-over T n q y (λ saved. e (saved-unique T (suc n) s q here saved))

        go : (s < length old) ⊎ (length old ≤ s) → AreSavers T (suc n) (if nat_lt s (length old) then set old s number else old)
        go (inr past) = rw (le-ltb s (length old) past) (record { size = x.size; each = λ q y at. apart q y (λ e. absurd (omega (arith, e, slice_get_within old q y at))) (x.each q y at) })
        go (inl inside) = rw (lt-ltb s (length old) inside) (record { size = length-set old s number ∙ x.size; each = each })
          where
            each : (q y : ℕ) → slice_get (set old s number) q ≡ Some y → IsSaver T (suc n) q y
            each q y at = by_place (cases_eq q s)
              where
                value : get_or (set old s number) q y ≡ y
                value = get_or_from_slice_get (set old s number) q y y at

                by_place : (q ≡ s) ⊎ (q ≢ s) → IsSaver T (suc n) q y
                by_place (inl e) =
                    let own : y ≡ suc n = sym value ∙ ap (λ k. get_or (set old s number) k y) e ∙ get_or-set_same old s number y inside ∙ same in
                    rw (own, e) (inr (omega arith, here, λ j upto saved. upto))
                by_place (inr e) =
                    let below : q < length old = omega (arith, slice_get_within (set old s number) q y at, length-set old s number) in
                    apart q y (λ back. e (sym back)) (x.each q y (slice_get-get_or old q y below ∙ ap Some (sym (get_or-set_other old s q number y e) ∙ value)))

    by_op : (o : Op) → IsAct T (suc n) (act_of f u o) → AreSavers T (suc n) (with_saver o s number old)
    by_op (Store w) is = stored (line_of f w.addr) w is
    by_op (Clwb a) is = other (Flushes u (line_of f a)) is (λ l w e. cc)
    by_op (ClflushOpt a) is = other (Flushes u (line_of f a)) is (λ l w e. cc)
    by_op (Clflush a) is = other (Clflushes (line_of f a)) is (λ l w e. cc)
    by_op Sfence is = other (Fences u) is (λ l w e. cc)
    by_op Mfence is = other (Fences u) is (λ l w e. cc)
    by_op (IsPersist r) is = other Asserts is (λ l w e. cc)
    by_op (IsOrderedBefore r q) is = other Asserts is (λ l w e. cc)

-- no place yet
pub last-start : (T : Recording) → IsLastBefore T 0 0
last-start T = inl (refl, λ j q saved below. absurd (omega (arith, below)))

-- one more place
pub last-next : (T : Recording) (q x y : ℕ) → IsSaver T (length T.events) q x → IsLastBefore T q y → IsLastBefore T (suc q) (if x == 0 then y else x)
last-next T q zero y (inr some) last = absurd (omega (arith, (saved-within T 0 q some.1).0))
last-next T q zero y (inl none) (inl before) = inl (before.0, λ j r saved below. by j r saved (cases_lt r q) below)
  where
    by : (j r : ℕ) → IsSavedAt T j r → (r < q) ⊎ (q ≤ r) → r < suc q → ⊥
    by j r saved (inl early) below = before.1 j r saved early
    by j r saved (inr past) below = let e : r ≡ q = omega arith in none.1 j (saved-within T j r saved).1 (subst (IsSavedAt T j) e saved)
last-next T q zero y (inl none) (inr before) = inr (before.0, before.1, omega (arith, before.2), λ j r saved below. by j r saved (cases_lt r q) below)
  where
    by : (j r : ℕ) → IsSavedAt T j r → (r < q) ⊎ (q ≤ r) → r < suc q → (r < before.0) ⊎ ((r ≡ before.0) × (j ≤ y))
    by j r saved (inl early) below = before.3 j r saved early
    by j r saved (inr past) below = let e : r ≡ q = omega arith in absurd (none.1 j (saved-within T j r saved).1 (subst (IsSavedAt T j) e saved))
last-next T q (suc k) y (inl none) last = absurd (omega (arith, none.0))
last-next T q (suc k) y (inr some) last = rw (ne_eqb (suc k) 0 (λ e. absurd (omega (arith, e)))) (inr (q, some.1, omega arith, λ j r saved below. by j r saved (cases_lt r q) below))
  where
    by : (j r : ℕ) → IsSavedAt T j r → (r < q) ⊎ (q ≤ r) → r < suc q → (r < q) ⊎ ((r ≡ q) × (j ≤ suc k))
    by j r saved (inl early) below = inl early
    by j r saved (inr past) below = let e : r ≡ q = omega arith in inr (e, some.2 j (saved-within T j r saved).1 (subst (IsSavedAt T j) e saved))

-- the places so far
pub record AreLastSoFar (T : Recording) (n : ℕ) (list : List ℕ) : Type 0 where
  pub size : length list ≡ n
  pub each : (q x : ℕ) → slice_get list q ≡ Some x → IsLastBefore T (suc q) x

pub last-pushed : (T : Recording) (n x : ℕ) (old new : List ℕ) → new ≡ old ++ x ∷ [] → IsLastBefore T (suc n) x → AreLastSoFar T n old → AreLastSoFar T (n + 1) new
last-pushed T n x old new made last sofar = rw made (record { size = size; each = λ q y at. go q y at (cases_lt q n) })
  where
    size : length (old ++ x ∷ []) ≡ n + 1
    size = omega (arith, sofar.size, length-append old (x ∷ []))

    go : (q y : ℕ) → slice_get (old ++ x ∷ []) q ≡ Some y → (q < n) ⊎ (n ≤ q) → IsLastBefore T (suc q) y
    go q y at (inl before) = sofar.each q y (sym (get-before old x q (omega (arith, sofar.size))) ∙ at)
    go q y at (inr from) =
        let here : q ≡ length old = omega (arith, sofar.size, size, slice_get_within (old ++ x ∷ []) q y at) in
        let same : x ≡ y = same_Some x y (sym (get-last old x) ∙ ap (slice_get (old ++ x ∷ [])) (sym here) ∙ at) in
        let number : suc n ≡ suc q = omega (arith, here, sofar.size) in
        subst (IsLastBefore T (suc q)) same (subst (λ m. IsLastBefore T m x) number last)

-- the number at an index
at-index : (xs : List ℕ) (n : ℕ) → n < length xs → slice_get xs n ≡ Some (unwrap_or (slice_get xs n) 0)
at-index xs n within = let e = slice_get-get_or xs n 0 within in e ∙ ap Some (sym (ap (λ o. unwrap_or o 0) e))

-- what is told of an event
pub saved-told : (T : Recording) (safe : List ℕ) (s : Savings) (n : ℕ) → AreSafePlaces T safe → AreOwnFences T s.fences.items → AreLast T s.last.items → n < length T.events → TellsSaved T (suc n) (saved_by safe s (suc n))
saved-told T safe s n are_safe fences lasts within = by_store store refl
  where
    e : Event
    e = (event-some T n within).0

    at : event T (suc n) ≡ Some e
    at = (event-some T n within).1

    fence : ℕ
    fence = unwrap_or (slice_get s.fences.items n) 0

    store : ℕ
    store = unwrap_or (slice_get s.last.items fence) 0

    first : IsFirst (IsFenceAfter T e.thread (suc n)) (past_of T) fence
    first =
        fences.each n fence e (at-index s.fences.items n (omega (arith, fences.size))) at

    only : (m : ℕ) → IsOwnFence T (suc n) m → m ≡ fence
    only m own =
        let same : own.0 ≡ e = same_Some own.0 e (sym own.1 ∙ at) in
        first-unique _ (past_of T) m fence (subst (λ (d : Event). IsFirst (IsFenceAfter T d.thread (suc n)) (past_of T) m) same own.2) first

    noted : fence < length s.last.items → slice_get s.last.items fence ≡ Some store
    noted inside = at-index s.last.items fence inside

    by_store : (k : ℕ) → store ≡ k → TellsSaved T (suc n) (saved_if safe (suc n) fence k)
    by_store zero is = λ m k p own saved upto.
        let same = only m own in
        let inside : fence < length s.last.items = omega (arith, same, own.3, lasts.size) in
        let last : IsLastBefore T (suc fence) 0 = lasts.each fence 0 (noted inside ∙ ap Some is) in
        elim last [
          | inl none ↦ absurd (none.1 k p saved (omega arith))
          | inr some ↦ absurd (omega (arith, (saved-within T 0 some.0 some.1).0))
        ]
    by_store (suc j) is = by_last (lasts.each fence (suc j) (noted inside ∙ ap Some is))
      where
        inside : fence < length s.last.items
        inside = elim (cases_lt fence (length s.last.items)) [
          | inl below ↦ below
          | inr past ↦ let none : store ≡ 0 = ap (λ o. unwrap_or o 0) (slice_get_past s.last.items fence past) in absurd (omega (arith, none, is))
        ]

        by_last : IsLastBefore T (suc fence) (suc j) → TellsSaved T (suc n) (saved_if safe (suc n) fence (suc j))
        by_last (inl none) = absurd (omega (arith, none.0))
        by_last (inr some) = go (cases_lt (suc n) place)
          where
            place : ℕ
            place = unwrap_or (slice_get safe j) 0

            below : j < length safe
            below = omega (arith, (saved-within T (suc j) some.0 some.1).1, are_safe.size)

            same : place ≡ some.0
            same =
                let tells = are_safe.each j place (at-index safe j below) in
                saved-unique T (suc j) place some.0 ((some.1).0, (some.1).1, (some.1).2, tells (some.1).0 (some.1).1 (some.1).2) some.1

            own : IsOwnFence T (suc n) fence
            own = (e, at, first, omega (arith, inside, lasts.size))

            go : (suc n < place) ⊎ (place ≤ suc n) → TellsSaved T (suc n) (saved_if safe (suc n) fence (suc j))
            go (inl later) = rw (lt-ltb (suc n) place later) (
              own,
              some.0,
              record { saved = some.1; by_then = omega (arith, some.2); last = λ i q saved upto. some.3 i q saved (omega arith) },
              omega (arith, later, same),
            )
            go (inr early) = rw (le-ltb (suc n) place early) (λ m k p own saved upto.
                elim (some.3 k p saved (omega (arith, only m own))) [ inl less ↦ omega (arith, same) | inr equal ↦ omega (arith, same, equal.0) ])

-- of a store that one fence leaves unsafe
left-within : (fates : List Fate) (i : ℕ) → is_same Left (fate_at fates i) ≡ true → (n : ℕ) × (i ≡ suc n) × (n < length fates)
left-within fates zero is = absurd (false≢true is)
left-within fates (suc n) is = (n, refl, go (cases_lt n (length fates)))
  where
    go : (n < length fates) ⊎ (length fates ≤ n) → n < length fates
    go (inl within) = within
    go (inr past) = absurd (false≢true (ap (λ o. is_same Left (unwrap_or o Claim)) (sym (slice_get_past fates n past)) ∙ is))

pub no-left : (fates : List Fate) (i : ℕ) → ((k : ℕ) (f : Fate) → slice_get fates k ≡ Some f → is_same Left f ≡ false) → is_same Left (fate_at fates i) ≡ true → ⊥
no-left fates i none is =
    let x = left-within fates i is in
    let at = slice_get-get_or fates x.0 Claim x.2 in
    let here : is_same Left (fate_at fates (suc x.0)) ≡ true = ap (λ j. is_same Left (fate_at fates j)) (sym x.1) ∙ is in
    false≢true (sym (none x.0 (get_or fates x.0 Claim) at) ∙ sym (ap (λ o. is_same Left (unwrap_or o Claim)) at) ∙ here)

pub left-told : (T : Recording) (safe : List ℕ) (fates : List Fate) (s : Savings) → AreSafePlaces T safe → length fates ≡ length T.events → AreOwnFences T s.fences.items → AreLast T s.last.items → (i : ℕ) →
    is_same Left (fate_at fates i) ≡ true → TellsSaved T i (saved_by safe s i)
left-told T safe fates s are_safe size fences lasts i is =
    let x = left-within fates i is in
    subst (λ j. TellsSaved T j (saved_by safe s j)) (sym x.1) (saved-told T safe s x.0 are_safe fences lasts (omega (arith, x.2, size)))
