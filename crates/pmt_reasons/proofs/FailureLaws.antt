-- A failure is a crash that violates its assertion, and an assertion without one passes.
use Rattle.std.proofs.Common.{◌≡◌, ℕ, zero, suc, ◌<◌, ◌≤◌, ◌==◌, ◌⊎◌, inl, inr, List, ◌∷◌, ◌++◌, [], Option, None, Some, refl, sym, ap, subst, ◌∙◌, arith, IfSome}
use Rattle.std.specs.Prelude.{IsSomeAnd}
use Rattle.std.proofs.lemmas.Bool.{cases_lt, cond_both, cond-true, eq-eqb}
use Rattle.std.proofs.lemmas.Bool.Decides.{nat_tests}
use Rattle.pmt_laws.specs.Prelude.{Span, Act, Stores, IsMoment, InBox, front, front_at, Recording, history, count_at, Placed, InSpan, IsPersisted, last_store, up_to_last, NoLater, PersistPasses, OrderedPasses, last_store_number}
use Rattle.pmt_laws.proofs.Histories.{act-unique, history-act, history-step, front-le-count}
use Rattle.pmt_laws.proofs.MomentsOfRuns.{box-passes}
use Rattle.pmt_laws.proofs.AssertLemmas.{persist_by_fronts, ordered_by_fronts}
use Rattle.pmt_reasons.specs.declared.failure.ByteStore.{ByteStore}
use Rattle.pmt_reasons.specs.Failures.{persisted_at, CrashIsMoment, IsLost, IsLastIn, IsKeptWithout, PersistFailureFails, OrderedFailureFails}
use Rattle.pmt_reasons.proofs.LastStores.{IsLastFound, TellsLast, last-at, last-found}

-- the history of a later place goes on from that of an earlier one
history-extends : (T : Recording) (n i : ℕ) → n ≤ i → (newer : List Act) × (history T i ≡ newer ++ history T n)
history-extends T n zero h = let e : n ≡ zero = omega arith in ([], ap (history T) (sym e))
history-extends T n (suc i) h = go (cases_lt n (suc i)) (λ within. history-extends T n i within)
  where
    go : (n < suc i) ⊎ (suc i ≤ n) → (n ≤ i → (newer : List Act) × (history T i ≡ newer ++ history T n)) → (newer : List Act) × (history T (suc i) ≡ newer ++ history T n)
    go (inl less) before = elim (history-step T i) [
      | inl x ↦ let older = before (omega arith) in (x.0 ∷ older.0, history-act T i x.0 x.1 ∙ ap (λ h. x.0 ∷ h) older.1)
      | inr x ↦ let older = before (omega arith) in (older.0, x.1 ∙ older.1)
    ]
    go (inr equal) before = let e : n ≡ suc i = omega arith in ([], ap (history T) (sym e))

-- the counts of the crash lie between the fronts and the counts
crash-box : (T : Recording) (n : ℕ) (full : Option ℕ) → InBox (history T n) (persisted_at T n full)
crash-box T n full l = grind (arith, nat_tests, front-le-count, cond_both)

-- the crash is at a moment of a run
pub crash_is_moment : CrashIsMoment
crash_is_moment T i n full within =
    let newer = history-extends T n i within in
    let x = box-passes newer.0 (history T n) (persisted_at T n full) (crash-box T n full) in
    record {
      state = x.0;
      moment = subst (λ h. IsMoment h x.0) (sym newer.1) x.1;
      end = λ e. (x.1.1, x.2 ∙ ap (history T) (sym e));
      now = x.2;
      persisted = x.3;
    }

-- the line and the rank of a last store that is lost
lost-found : (T : Recording) (i n : ℕ) (full : Option ℕ) (x : ByteStore) (found : IsLastFound T x.byte i (history T i) x.store) → IsLost T n full x.store →
    persisted_at T n full found.line < count_at T found.line x.store
lost-found T i n full x found lost = grind (arith, nat_tests, act-unique)

-- a lost store is not persisted
lost-missing : (T : Recording) (i n : ℕ) (full : Option ℕ) (A : Span) (x : ByteStore) (v : ℕ → ℕ) → IsLastIn T i A x → IsLost T n full x.store → ((l : ℕ) → v l ≡ persisted_at T n full l) →
    IfSome (last_store x.byte (history T i)) (IsPersisted v) → ⊥
lost-missing T i n full A x v last lost counts persisted =
    let found = last-found T x.byte i x.store last.last in
    let missing = lost-found T i n full x found lost in
    let there = subst (λ o. IfSome o (IsPersisted v)) found.store persisted in
    absurd (omega (arith, missing, there, counts found.line))

-- an isPersist with a failure does not pass
pub persist_failure_fails : PersistFailureFails
persist_failure_fails T i A f x passes =
    let crash = crash_is_moment T i i None (omega arith) in
    lost-missing T i i None A f.lost crash.state.persisted x.lost.is_last x.lost.is_lost crash.persisted (passes crash.state (crash.end refl) f.lost.byte x.lost.is_last.inside)

-- an isOrderedBefore with a failure does not pass
pub ordered_failure_fails : OrderedFailureFails
ordered_failure_fails T i A B f x passes =
    let found = last-found T x.kept.byte i x.kept.store x.is_last.last in
    let crash = crash_is_moment T i x.kept.store (Some x.line) found.by_now in
    let same = act-unique T x.kept.store (Stores x.line x.what) (Stores found.line found.what) x.is_store found.is_store in
    let line : found.line ≡ x.line = cc in
    let all : persisted_at T x.kept.store (Some x.line) found.line ≡ count_at T found.line x.kept.store =
    cond-true (found.line == x.line) (count_at T found.line x.kept.store) (front_at T found.line x.kept.store) (eq-eqb found.line x.line line) in
    let there : count_at T found.line x.kept.store ≤ crash.state.persisted found.line = omega (arith, all, crash.persisted found.line) in
    let kept = subst (λ o. IsSomeAnd o (IsPersisted crash.state.persisted)) (sym found.store) there in
    lost-missing T i x.kept.store (Some x.line) A f.lost crash.state.persisted x.lost.is_last x.lost.is_lost crash.persisted
    (passes crash.state crash.moment x.kept.byte x.is_last.inside kept f.lost.byte x.lost.is_last.inside)

-- a last store that the crash does not lose is persisted
kept-found : (T : Recording) (i n : ℕ) (full : Option ℕ) (b x : ℕ) (found : IsLastFound T b i (history T i) x) → (IsLost T n full x → ⊥) → count_at T found.line x ≤ persisted_at T n full found.line
kept-found T i n full b x found kept = grind (arith, nat_tests, cases_lt)

-- an isPersist passes where the crash at its place loses no last store
pub persist-passes : (T : Recording) (i : ℕ) (A : Span) → ((z : ByteStore) → IsLastIn T i A z → IsLost T i None z.store → ⊥) → PersistPasses (history T i) A
persist-passes T i A none = (persist_by_fronts (history T i) A).1 (λ a inside. covered a inside (last_store_number a (history T i)) refl (last-at T a i))
  where
    covered : (a : ℕ) → InSpan A a → (o : Option ℕ) → last_store_number a (history T i) ≡ o → TellsLast T a i (history T i) (last_store_number a (history T i)) →
        IfSome (last_store a (history T i)) (λ x. x.rank ≤ front x.line (history T i))
    covered a inside None is tells =
        let Q : Placed → Type 0 = λ x. x.rank ≤ front x.line (history T i) in
        subst (λ p. IfSome p Q) (sym (subst (TellsLast T a i (history T i)) is tells)) tt
    covered a inside (Some x) is tells =
        let found = subst (TellsLast T a i (history T i)) is tells in
        let Q : Placed → Type 0 = λ y. y.rank ≤ front y.line (history T i) in
        subst (λ p. IfSome p Q) (sym found.store) (kept-found T i i None a x found (λ lost. none (record { store = x; byte = a }) (record { inside = inside; last = is }) lost))

-- what a kept store's line and count say of another store
no_later : (T : Recording) (l k x y : ℕ) → count_at T l x ≤ persisted_at T y (Some k) l →
    NoLater (history T y) (record { line = l; rank = count_at T l x }) (record { line = k; rank = count_at T k y })
no_later T l k x y there = grind (arith, nat_tests)

-- an isOrderedBefore passes where no crash right after a last store to its second range loses a last store to its first
pub ordered-passes : (T : Recording) (i : ℕ) (A B : Span) → ((y x : ByteStore) → IsLastIn T i A x → IsKeptWithout T i B y x.store → ⊥) → OrderedPasses (history T i) A B
ordered-passes T i A B none = (ordered_by_fronts (history T i) A B).1 (λ b inside. each b inside (last_store_number b (history T i)) refl (last-at T b i))
  where
    before : (b : ℕ) → InSpan B b → (y : ℕ) → last_store_number b (history T i) ≡ Some y → (found : IsLastFound T b i (history T i) y) → (a : ℕ) → InSpan A a →
        (o : Option ℕ) → last_store_number a (history T i) ≡ o → TellsLast T a i (history T i) (last_store_number a (history T i)) →
        IfSome (last_store a (history T i)) (λ x. NoLater (up_to_last b (history T i)) x (record { line = found.line; rank = count_at T found.line y }))
    before b in_b y is_y found a in_a None is tells =
        let Q : Placed → Type 0 = λ x. NoLater (up_to_last b (history T i)) x (record { line = found.line; rank = count_at T found.line y }) in
        subst (λ p. IfSome p Q) (sym (subst (TellsLast T a i (history T i)) is tells)) tt
    before b in_b y is_y found a in_a (Some x) is tells =
        let other = subst (TellsLast T a i (history T i)) is tells in
        let Q : Placed → Type 0 = λ x. NoLater (up_to_last b (history T i)) x (record { line = found.line; rank = count_at T found.line y }) in
        let there = kept-found T i y (Some found.line) a x other (λ lost. none (record { store = y; byte = b }) (record { store = x; byte = a }) (record { inside = in_a; last = is })
        (record { line = found.line; what = found.what; is_last = record { inside = in_b; last = is_y }; is_store = found.is_store; is_lost = lost })) in
        subst (λ p. IfSome p Q) (sym other.store)
        (subst (λ h. NoLater h (record { line = other.line; rank = count_at T other.line x }) (record { line = found.line; rank = count_at T found.line y })) (sym found.past)
        (no_later T other.line found.line x y there))

    each : (b : ℕ) → InSpan B b → (o : Option ℕ) → last_store_number b (history T i) ≡ o → TellsLast T b i (history T i) (last_store_number b (history T i)) →
        IfSome (last_store b (history T i)) (λ y. (a : ℕ) → InSpan A a → IfSome (last_store a (history T i)) (λ x. NoLater (up_to_last b (history T i)) x y))
    each b inside None is tells =
        let Q : Placed → Type 0 = λ y. (a : ℕ) → InSpan A a → IfSome (last_store a (history T i)) (λ x. NoLater (up_to_last b (history T i)) x y) in
        subst (λ p. IfSome p Q) (sym (subst (TellsLast T b i (history T i)) is tells)) tt
    each b inside (Some y) is tells =
        let found = subst (TellsLast T b i (history T i)) is tells in
        let Q : Placed → Type 0 = λ y. (a : ℕ) → InSpan A a → IfSome (last_store a (history T i)) (λ x. NoLater (up_to_last b (history T i)) x y) in
        subst (λ p. IfSome p Q) (sym found.store) (λ a in_a. before b inside y is found a in_a (last_store_number a (history T i)) refl (last-at T a i))
