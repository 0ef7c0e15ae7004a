-- With a mend put in, the store is no longer lost.
use Rattle.std.proofs.Common.{◌≡◌, ℕ, zero, suc, ◌<◌, ◌≤◌, ◌⊎◌, inl, inr, Bool, true, false, List, [], ◌∷◌, ◌++◌, length, Option, None, Some, refl, sym, ap, subst, ◌∙◌, arith}
use Rattle.std.specs.Prelude.{MatchOption}
use Rattle.std.proofs.lemmas.Bool.{cases_lt}
use Rattle.std.proofs.lemmas.Option.{none-some}
use Rattle.std.proofs.lemmas.Bool.Decides.{nat_tests}
use Rattle.pmt_laws.specs.Prelude.{Span, Written, Event, Op, IsPersist, IsOrderedBefore, Act, Stores, Flushes, State, count, Recording, IsAct, event, history, count_at, front, front_at, option_map}
use Rattle.pmt_laws.proofs.Histories.{act-unique, act-within, history-act, history-step, count-mono, front-mono}
use Rattle.pmt_laws.proofs.BoxLemmas.{leads-box}
use Rattle.pmt_laws.proofs.MomentsOfRuns.{passes-split}
use Rattle.pmt_laws.proofs.AssertLemmas.{front-le-persisted}
use Rattle.pmt_reasons.specs.declared.cause.Cause.{Cause}
use Rattle.pmt_reasons.specs.declared.cause.Cause.TheVariants.{Later, Unflushed, Unfenced}
use Rattle.pmt_reasons.specs.declared.failure.ByteStore.{ByteStore}
use Rattle.pmt_reasons.specs.declared.failure.Failure.{Failure}
use Rattle.pmt_reasons.specs.Causes.{IsCause}
use Rattle.pmt_reasons.specs.Failures.{IsPersistFailure, IsOrderedFailure, IsFailureOf}
use Rattle.pmt_reasons.specs.declared.mend.Mend.{Mend}
use Rattle.pmt_reasons.specs.declared.mend.Mend.TheVariants.{Fence}
use Rattle.pmt_reasons.specs.Mends.{mend_of, HasEvents, KeepsOrderBut, HasMend, IsFencedBetween, IsFlushedBetween, IsStoredBefore, HasPersisted, IsNeverLost, KeepsInLine, FailureIsMended, LossIsMended}
use Rattle.pmt_reasons.proofs.CauseLemmas.{rank-above, safe-fence}

-- ---- What a front makes sure of

-- what the history of a place goes on from is the history of an earlier one
history-split : (U : Recording) (i : ℕ) (newer h : List Act) → history U i ≡ newer ++ h → (m : ℕ) × (h ≡ history U m)
history-split U i [] h e = (i, sym e)
history-split U zero (a ∷ newer) h e = absurd cc
history-split U (suc i) (a ∷ newer) h e = elim (history-step U i) [
  | inl x ↦
      let both : x.0 ∷ history U i ≡ a ∷ (newer ++ h) = sym (history-act U i x.0 x.1) ∙ e in
      let rest : history U i ≡ newer ++ h = cc in
      history-split U i newer h rest
  | inr x ↦ history-split U i (a ∷ newer) h (sym x.1 ∙ e)
]

-- a store whose rank the front reaches is persisted at the end of each run
never-lost : (U : Recording) (l i x : ℕ) (w : Written) → IsAct U x (Stores l w) → count_at U l x ≤ front_at U l i → IsNeverLost U i None x
never-lost U l i x w store reached s ends = record { line = l; what = w; is_store = store; persisted = omega (arith, reached, front-le-persisted (history U i) s ends l) }

-- where a store is persisted, it has come
has-come : (U : Recording) (m y : ℕ) (s : State) → s.history ≡ history U m → ((l : ℕ) → s.persisted l ≤ count l s.history) → HasPersisted U s y → y ≤ m
has-come U m y s at few has = go (cases_lt m y)
  where
    go : (m < y) ⊎ (y ≤ m) → y ≤ m
    go (inr come) = come
    go (inl later) =
        let above = rank-above U has.line m y has.what has.is_store later in
        let here : s.persisted has.line ≤ count_at U has.line m = subst (λ h. s.persisted has.line ≤ count has.line h) at (few has.line) in
        absurd (omega (arith, above, here, has.persisted))

-- a store whose rank the front reaches by store y is persisted wherever y is
never-lost_beside : (U : Recording) (l i x y : ℕ) (w : Written) → IsAct U x (Stores l w) → count_at U l x ≤ front_at U l y → IsNeverLost U i (Some y) x
never-lost_beside U l i x y w store reached s moment has =
    let split = passes-split (history U i) s moment in
    let box = leads-box s split.2 in
    let at = history-split U i split.0 s.history split.1 in
    let come = has-come U at.0 y s at.1 (λ k. (box k).1) has in
    let least : front_at U l at.0 ≤ s.persisted l = subst (λ h. front l h ≤ s.persisted l) at.1 (box l).0 in
    record { line = l; what = w; is_store = store; persisted = omega (arith, reached, front-mono U l y at.0 come, least) }

-- an earlier store to the line of y is persisted wherever y is
never-lost_in_line : (U : Recording) (l i x y : ℕ) (w v : Written) → IsAct U x (Stores l w) → IsAct U y (Stores l v) → x < y → IsNeverLost U i (Some y) x
never-lost_in_line U l i x y w v store later before s moment has =
    let same = act-unique U y (Stores has.line has.what) (Stores l v) has.is_store later in
    let line : has.line ≡ l = cc in
    let kept : count_at U l y ≤ s.persisted l = subst (λ k. count_at U k y ≤ s.persisted k) line has.persisted in
    record { line = l; what = w; is_store = store; persisted = omega (arith, kept, count-mono U l x y (omega arith)) }

-- ---- What is put in

-- a store is safe by the event before which its line is flushed and fenced
flushed-safe : (U : Recording) (l x a b m : ℕ) → x ≤ a → b ≤ suc m → IsFlushedBetween U l a b → count_at U l x ≤ front_at U l m
flushed-safe U l x a b m early late put =
    let fence = put.fenced in
    safe-fence U l m x put.thread put.flush fence.fence put.is_flush fence.is_fence (omega (arith, put.after)) fence.after (omega (arith, fence.before))

-- a number that is no later has a new one that is no later
new-mono : (new : ℕ → ℕ) (i j : ℕ) → KeepsOrderBut (λ i. ⊥) new → i ≤ j → new i ≤ new j
new-mono new i j rises le = go (cases_lt i j)
  where
    go : (i < j) ⊎ (j ≤ i) → new i ≤ new j
    go (inl less) = omega (arith, rises i j (λ no. no) (λ no. no) less)
    go (inr same) = let e : i ≡ j = omega arith in omega (arith, ap new e)

-- a store is safe by the event before which the thread that flushed its line fences
fenced-safe : (T U : Recording) (new : ℕ → ℕ) (l n x flush thread b m : ℕ) (other : Option ℕ) → IsCause T l n x (Unfenced flush thread other) → HasEvents T U new →
    KeepsOrderBut (λ i. ⊥) new → IsFencedBetween U thread (new flush) b → b ≤ suc m → count_at U l (new x) ≤ front_at U l m
fenced-safe T U new l n x flush thread b m other why events rises fence late =
    safe-fence U l m (new x) thread (new flush) fence.fence (events flush (Flushes thread l) why.1.is_flush) fence.is_fence
    (rises x flush (λ no. no) (λ no. no) why.1.after) fence.after (omega (arith, fence.before, late))

-- the line of a store that is stored first is flushed and fenced before the event
stored-first_safe : (T U : Recording) (new : ℕ → ℕ) (l x b m : ℕ) (w : Written) → IsAct T x (Stores l w) → IsStoredBefore T U new x b false → b ≤ suc m →
    count_at U l (new x) ≤ front_at U l m
stored-first_safe T U new l x b m w store put late = grind (arith, nat_tests, act-unique, flushed-safe)

-- ---- The laws

-- the events of a trace are there with the mend put in
has-events : (T U : Recording) (new : ℕ → ℕ) (m : Mend) → HasMend T U new m → HasEvents T U new
has-events T U new (Fence thread after before) put = put.0
has-events T U new a put = put.0

-- the store is safe by the event before which the mend is put in, or comes before it on its line
rescued : (T U : Recording) (new : ℕ → ℕ) (l n x : ℕ) (w : Written) (c : Cause) (same_line : Bool) → IsAct T x (Stores l w) → IsCause T l n x c →
    HasMend T U new (mend_of c l x (Some n) same_line) → (count_at U l (new x) ≤ front_at U l (new n)) ⊎ ((same_line ≡ true) × (new x < new n))
rescued T U new l n x w Later true store why put = inr (refl, put.2.earlier)
rescued T U new l n x w Later false store why put = inl (stored-first_safe T U new l x (new n) (new n) w store put.2 (omega arith))
rescued T U new l n x w Unflushed same_line store why put = inl (flushed-safe U l (new x) (new x) (new n) (new n) (omega arith) (omega arith) put.2)
rescued T U new l n x w (Unfenced flush thread other) same_line store why put = inl (fenced-safe T U new l n x flush thread (new n) (new n) other why put.0 put.1 put.2 (omega arith))

persist-mended : (T U : Recording) (new : ℕ → ℕ) (i l : ℕ) (w : Written) (A : Span) (f : Failure) (same_line : Bool) → IsPersistFailure T i A f → IsAct U (new f.lost.store) (Stores l w) →
    (same_line ≡ true → KeepsInLine T l f.kept) → (count_at U l (new f.lost.store) ≤ front_at U l (new f.place)) ⊎ ((same_line ≡ true) × (new f.lost.store < new f.place)) →
    IsNeverLost U (new i) (option_map (λ (y : ByteStore). new y.store) f.kept) (new f.lost.store)
persist-mended T U new i l w A f same_line fails store in_line (inl reached) =
    let here : count_at U l (new f.lost.store) ≤ front_at U l (new i) = subst (λ (n : ℕ). count_at U l (new f.lost.store) ≤ front_at U l (new n)) fails.place reached in
    subst (λ (o : Option ByteStore). IsNeverLost U (new i) (option_map (λ (y : ByteStore). new y.store) o) (new f.lost.store)) (sym fails.kept)
    (never-lost U l (new i) (new f.lost.store) w store here)
persist-mended T U new i l w A f same_line fails store in_line (inr first) = absurd (subst (KeepsInLine T l) fails.kept (in_line first.0))

ordered-mended : (T U : Recording) (new : ℕ → ℕ) (i l : ℕ) (w : Written) (A B : Span) (f : Failure) (same_line : Bool) → IsOrderedFailure T i A B f → HasEvents T U new →
    IsAct U (new f.lost.store) (Stores l w) → (same_line ≡ true → KeepsInLine T l f.kept) →
    (count_at U l (new f.lost.store) ≤ front_at U l (new f.place)) ⊎ ((same_line ≡ true) × (new f.lost.store < new f.place)) →
    IsNeverLost U (new i) (option_map (λ (y : ByteStore). new y.store) f.kept) (new f.lost.store)
ordered-mended T U new i l w A B f same_line fails events store in_line (inl reached) =
    let x = new f.lost.store in
    let y = new fails.kept.store in
    let here : count_at U l x ≤ front_at U l y = subst (λ (n : ℕ). count_at U l x ≤ front_at U l (new n)) fails.place reached in
    subst (λ (o : Option ByteStore). IsNeverLost U (new i) (option_map (λ (y : ByteStore). new y.store) o) x) (sym fails.is_kept)
    (never-lost_beside U l (new i) x y w store here)
ordered-mended T U new i l w A B f same_line fails events store in_line (inr first) =
    let x = new f.lost.store in
    let y = new fails.kept.store in
    let on_line : (v : Written) × IsAct T fails.kept.store (Stores l v) = subst (KeepsInLine T l) fails.is_kept (in_line first.0) in
    let earlier : x < y = subst (λ (n : ℕ). x < new n) fails.place first.1 in
    subst (λ (o : Option ByteStore). IsNeverLost U (new i) (option_map (λ (y : ByteStore). new y.store) o) x) (sym fails.is_kept)
    (never-lost_in_line U l (new i) x y w on_line.0 store (events fails.kept.store (Stores l on_line.0) on_line.1) earlier)

some-none : (f : Failure) → ¬ (Some f ≡ None)
some-none f e = none-some f (sym e)

op-mended : (T U : Recording) (new : ℕ → ℕ) (i l : ℕ) (w : Written) (op : Op) (f : Failure) (same_line : Bool) → IsFailureOf T i op (Some f) → HasEvents T U new →
    IsAct U (new f.lost.store) (Stores l w) → (same_line ≡ true → KeepsInLine T l f.kept) →
    (count_at U l (new f.lost.store) ≤ front_at U l (new f.place)) ⊎ ((same_line ≡ true) × (new f.lost.store < new f.place)) →
    IsNeverLost U (new i) (option_map (λ (y : ByteStore). new y.store) f.kept) (new f.lost.store)
op-mended T U new i l w (IsPersist A) f same_line h events store in_line way = persist-mended T U new i l w A f same_line h store in_line way
op-mended T U new i l w (IsOrderedBefore A B) f same_line h events store in_line way = ordered-mended T U new i l w A B f same_line h events store in_line way
op-mended T U new i l w b f same_line h events store in_line way = absurd (some-none f h)

event-mended : (T U : Recording) (new : ℕ → ℕ) (i l : ℕ) (w : Written) (o : Option Event) (f : Failure) (same_line : Bool) →
    MatchOption o (Some f ≡ None) (λ (e : Event). IsFailureOf T i e.op (Some f)) → HasEvents T U new →
    IsAct U (new f.lost.store) (Stores l w) → (same_line ≡ true → KeepsInLine T l f.kept) →
    (count_at U l (new f.lost.store) ≤ front_at U l (new f.place)) ⊎ ((same_line ≡ true) × (new f.lost.store < new f.place)) →
    IsNeverLost U (new i) (option_map (λ (y : ByteStore). new y.store) f.kept) (new f.lost.store)
event-mended T U new i l w None f same_line h events store in_line way = absurd (some-none f h)
event-mended T U new i l w (Some e) f same_line h events store in_line way = op-mended T U new i l w e.op f same_line h events store in_line way

pub failure_is_mended : FailureIsMended
failure_is_mended T i l w f c same_line fails store why in_line U new put =
    let x = f.lost.store in
    let events = has-events T U new (mend_of c l x (Some f.place) same_line) put in
    event-mended T U new i l w (event T i) f same_line fails events (events x (Stores l w) store) in_line (rescued T U new l f.place x w c same_line store why put)

pub loss_is_mended : LossIsMended
loss_is_mended T l x last w Later store early why U new put = absurd (omega (arith, why, (act-within T x (Stores l w) store).1))
loss_is_mended T l x last w Unflushed store early why U new put =
    never-lost U l (length U.events) (new x) w (put.0 x (Stores l w) store)
    (flushed-safe U l (new x) (new last) (suc (length U.events)) (length U.events) (new-mono new x last put.1 early) (omega arith) put.2)
loss_is_mended T l x last w (Unfenced flush thread other) store early why U new put =
    never-lost U l (length U.events) (new x) w (put.0 x (Stores l w) store)
    (fenced-safe T U new l (length T.events) x flush thread (suc (length U.events)) (length U.events) other why put.0 put.1 put.2 (omega arith))
