-- Each mend that is told can be put in.
use Rattle.std.proofs.Common.{◌≡◌, ℕ, zero, suc, ◌<◌, ◌≤◌, inl, inr, Bool, true, false, List, [], ◌∷◌, length, Option, None, Some, refl, sym, ap, subst, ◌∙◌, arith}
use Rattle.std.specs.Prelude.{slice_get, MatchOption}
use Rattle.std.proofs.lemmas.Bool.{cases_lt, cond-true}
use Rattle.std.proofs.lemmas.Option.{none-some}
use Rattle.std.proofs.lemmas.Bool.Decides.{nat_tests}
use Rattle.pmt_laws.specs.Prelude.{Layout, Span, Written, IsAddress, line_of, Event, Op, Store, Clwb, ClflushOpt, Sfence, IsPersist, IsOrderedBefore, Act, Stores, Flushes, Asserts, Recording, IsTrace, IsAct, IsOp, IsEventIn, act, act_of, event, count_at, AllByRecursion}
use Rattle.pmt_laws.proofs.Histories.{act-unique, act-within, event-within}
use Rattle.pmt_reasons.specs.declared.cause.Cause.TheVariants.{Later, Unflushed, Unfenced}
use Rattle.pmt_reasons.specs.declared.failure.Failure.{Failure}
use Rattle.pmt_reasons.specs.declared.mend.Mend.TheVariants.{Fence, FlushAndFence, StoreFirst}
use Rattle.pmt_reasons.specs.Failures.{persisted_at, IsPersistFailure, IsOrderedFailure, IsFailureOf, IsFailureAt}
use Rattle.pmt_reasons.specs.Mends.{with_at, without_at, put_in, number_after, put_in_both, number_after_both, put_first, number_first, IsPlaceBetween, CanBePutIn, FailureCanBeMended, LossCanBeMended}
use Rattle.pmt_reasons.proofs.PuttingInLaws.{with-length, without-length, fence_can_be_put_in, flush_and_fence_can_be_put_in, store_can_be_put_first, flushed_store_can_be_put_first}

-- ---- The trace with the mend put in is one

all-at : (P : Event → Type 0) (es : List Event) (k : ℕ) (e : Event) → AllByRecursion P es → slice_get es k ≡ Some e → P e
all-at P [] k e all is = absurd (none-some e is)
all-at P (d ∷ es) zero e all is = let same : d ≡ e = cc in subst P same all.0
all-at P (d ∷ es) (suc k) e all is = all-at P es k e all.1 is

all-with : (P : Event → Type 0) (p : ℕ) (e : Event) (es : List Event) → P e → AllByRecursion P es → AllByRecursion P (with_at p e es)
all-with P (suc p) e (d ∷ es) one all = (all.0, all-with P p e es one all.1)
all-with P a e b one all = (one, all)

all-without : (P : Event → Type 0) (p : ℕ) (es : List Event) → AllByRecursion P es → AllByRecursion P (without_at p es)
all-without P p [] all = all
all-without P zero (d ∷ es) all = all.1
all-without P (suc p) (d ∷ es) all = (all.0, all-without P p es all.1)

event-in : (T : Recording) (i : ℕ) (e : Event) → IsTrace T → event T i ≡ Some e → IsEventIn T.format e
event-in T zero e is_trace is = absurd (none-some e is)
event-in T (suc i) e is_trace is = all-at (IsEventIn T.format) T.events i e is_trace.each is

-- the thread of a flush in a trace
flusher : (f : Layout) (t u l : ℕ) (op : Op) → act_of f t op ≡ Flushes u l → t ≡ u
flusher f t u l (Clwb a) e = cc
flusher f t u l (ClflushOpt a) e = cc
flusher f t u l b e = absurd (let x : ⊥ = cc in x)

-- where a store to a line begins
store-address : (f : Layout) (t l : ℕ) (w : Written) (op : Op) → act_of f t op ≡ Stores l w → (a : ℕ) × (line_of f a ≡ l) × (IsOp op → IsAddress a)
store-address f t l w (Store v) e = (v.addr, cc, λ is. is.address)
store-address f t l w b e = absurd (let x : ⊥ = cc in x)

abbrev fence-of : ℕ → Event
fence-of t = record { thread = t; op = Sfence }

fence-event : (f : Layout) (t : ℕ) → t < 256 → IsEventIn f (fence-of t)
fence-event f t small = record { event = record { thread = small; op = tt }; known = refl }

-- thread 0 flushes a line that is stored to
record Flush (T : Recording) (l : ℕ) : Type 0 where
  flush : Event
  is_flush : act T.format flush ≡ Flushes 0 l
  is_event : IsTrace T → IsEventIn T.format flush

flush-of : (T : Recording) (x l : ℕ) (w : Written) → IsAct T x (Stores l w) → Flush T l
flush-of T x l w (e, is, same) =
    let at = store-address T.format e.thread l w e.op same in
    record {
      flush = record { thread = 0; op = Clwb at.0 };
      is_flush = ap (Flushes 0) at.1;
      is_event = λ is_trace. record { event = record { thread = omega arith; op = at.2 (event-in T x e is_trace is).event.op }; known = refl };
    }

-- ---- The three mends

can-fence : (T : Recording) (flush thread l : ℕ) (before : Option ℕ) → IsAct T flush (Flushes thread l) → MatchOption before (Unit {0}) (λ (b : ℕ). flush < b) →
    CanBePutIn T (Fence thread flush before)
can-fence T flush thread l before is_flush ahead =
    let place : IsPlaceBetween T flush flush before = record { behind = omega arith; within = (act-within T flush (Flushes thread l) is_flush).1; ahead = ahead } in
    record {
      mended = put_in T flush (fence-of thread);
      new = number_after flush;
      has = fence_can_be_put_in T thread flush flush before (fence-of thread) refl place;
      is_trace = λ is_trace few.
          let small : thread < 256 = subst (λ t. t < 256) (flusher T.format is_flush.0.thread thread l is_flush.0.op is_flush.2) (event-in T flush is_flush.0 is_trace is_flush.1).event.thread in
          record {
            format = is_trace.format;
            few = omega (arith, few, with-length flush (fence-of thread) T.events);
            each = all-with (IsEventIn T.format) flush (fence-of thread) T.events (fence-event T.format thread small) is_trace.each;
          };
    }

can-flush : (T : Recording) (x l last : ℕ) (w v : Written) (before : Option ℕ) → IsAct T x (Stores l w) → IsAct T last (Stores l v) → MatchOption before (Unit {0}) (λ (b : ℕ). last < b) →
    CanBePutIn T (FlushAndFence l last before)
can-flush T x l last w v before store is_last ahead =
    let place : IsPlaceBetween T last last before = record { behind = omega arith; within = (act-within T last (Stores l v) is_last).1; ahead = ahead } in
    let f = flush-of T x l w store in
    let fence = fence-of 0 in
    record {
      mended = put_in_both T last f.flush fence;
      new = number_after_both last;
      has = flush_and_fence_can_be_put_in T 0 l last last before f.flush fence f.is_flush refl place;
      is_trace = λ is_trace few. record {
        format = is_trace.format;
        few = omega (arith, few, with-length last fence T.events, with-length last f.flush (with_at last fence T.events));
        each = all-with (IsEventIn T.format) last f.flush (with_at last fence T.events) (f.is_event is_trace)
            (all-with (IsEventIn T.format) last fence T.events (fence-event T.format 0 (omega arith)) is_trace.each);
      };
    }

can-store : (T : Recording) (x b l : ℕ) (w : Written) (same_line : Bool) → IsAct T x (Stores l w) → 1 ≤ b → b < x → CanBePutIn T (StoreFirst x (Some b) same_line)
can-store T (suc k) (suc p) l w true store some early =
    let e = store.0 in
    let few : k < length T.events = event-within T k e store.1 in
    let size : length (with_at p e (without_at k T.events)) ≡ length T.events = with-length p e (without_at k T.events) ∙ without-length k T.events few in
    record {
      mended = put_first T k p e;
      new = number_first k p;
      has = store_can_be_put_first T k p (suc p) l w e store.1 store.2 (omega arith) (omega arith);
      is_trace = λ is_trace small. record {
        format = is_trace.format;
        few = omega (arith, small, size);
        each = all-with (IsEventIn T.format) p e (without_at k T.events) (event-in T (suc k) e is_trace store.1)
            (all-without (IsEventIn T.format) k T.events is_trace.each);
      };
    }
can-store T (suc k) (suc p) l w false store some early =
    let e = store.0 in
    let few : k < length T.events = event-within T k e store.1 in
    let moved : List Event = with_at p e (without_at k T.events) in
    let size : length moved ≡ length T.events = with-length p e (without_at k T.events) ∙ without-length k T.events few in
    let f = flush-of T (suc k) l w store in
    let fence = fence-of 0 in
    record {
      mended = put_in_both (put_first T k p e) (suc p) f.flush fence;
      new = λ i. number_after_both (suc p) (number_first k p i);
      has = flushed_store_can_be_put_first T k p (suc p) l 0 w e f.flush fence store.1 store.2 f.is_flush refl (omega arith) (omega arith);
      is_trace = λ is_trace small. record {
        format = is_trace.format;
        few = omega (arith, small, size, with-length (suc p) fence moved, with-length (suc p) f.flush (with_at (suc p) fence moved));
        each = all-with (IsEventIn T.format) (suc p) f.flush (with_at (suc p) fence moved) (f.is_event is_trace)
            (all-with (IsEventIn T.format) (suc p) fence moved (fence-event T.format 0 (omega arith))
            (all-with (IsEventIn T.format) p e (without_at k T.events) (event-in T (suc k) e is_trace store.1)
            (all-without (IsEventIn T.format) k T.events is_trace.each)));
      };
    }
can-store T a c l w same_line store some early = absurd (omega arith)

-- ---- Where a failure's crash comes

-- the event at the place of the crash is no flush, and not the lost store
record Crashes (T : Recording) (f : Failure) : Type 0 where
  here : Act
  is_here : IsAct T f.place here
  no_flush : (t l : ℕ) → ¬ (here ≡ Flushes t l)
  apart : (l : ℕ) (w : Written) → IsAct T f.lost.store (Stores l w) → ¬ (f.lost.store ≡ f.place)

persist-crashes : (T : Recording) (i : ℕ) (A : Span) (f : Failure) → IsAct T i Asserts → IsPersistFailure T i A f → Crashes T f
persist-crashes T i A f is fails = grind (arith, nat_tests, act-unique)

full-line : (T : Recording) (k l n x : ℕ) → l ≡ k → x ≡ n → ¬ (persisted_at T n (Some k) l < count_at T l x)
full-line T k l n x line number missing = grind (arith, nat_tests, cond-true)

ordered-crashes : (T : Recording) (i : ℕ) (A B : Span) (f : Failure) → IsOrderedFailure T i A B f → Crashes T f
ordered-crashes T i A B f fails =
    let y = fails.kept.store in
    let here : IsAct T f.place (Stores fails.line fails.what) = subst (λ (n : ℕ). IsAct T n (Stores fails.line fails.what)) (sym fails.place) fails.is_store in
    let lost = fails.lost.is_lost in
    record {
      here = Stores fails.line fails.what;
      is_here = here;
      no_flush = λ t l e. let x : ⊥ = cc in x;
      apart = λ l w store same.
          let kept : IsAct T f.lost.store (Stores fails.line fails.what) = subst (λ (n : ℕ). IsAct T n (Stores fails.line fails.what)) (sym same) here in
          let acts : Stores lost.line lost.what ≡ Stores fails.line fails.what = act-unique T f.lost.store (Stores lost.line lost.what) (Stores fails.line fails.what) lost.is_store kept in
          let line : lost.line ≡ fails.line = cc in
          let number : f.lost.store ≡ y = same ∙ fails.place in
          full-line T fails.line lost.line y f.lost.store line number lost.missing;
    }

some-none : (f : Failure) → ¬ (Some f ≡ None)
some-none f e = none-some f (sym e)

op-crashes : (T : Recording) (i : ℕ) (e : Event) (op : Op) (f : Failure) → event T i ≡ Some e → e.op ≡ op → IsFailureOf T i op (Some f) → Crashes T f
op-crashes T i e (IsPersist A) f at is h = persist-crashes T i A f (e, at, ap (act_of T.format e.thread) is) h
op-crashes T i e (IsOrderedBefore A B) f at is h = ordered-crashes T i A B f h
op-crashes T i e b f at is h = absurd (some-none f h)

crashes : (T : Recording) (i : ℕ) (f : Failure) → IsFailureAt T i (Some f) → Crashes T f
crashes T i f fails = go (event T i) refl fails
  where
    go : (o : Option Event) → event T i ≡ o → MatchOption o (Some f ≡ None) (λ (e : Event). IsFailureOf T i e.op (Some f)) → Crashes T f
    go None at h = absurd (some-none f h)
    go (Some e) at h = op-crashes T i e e.op f at refl h

-- ---- The laws

below : (n m : ℕ) → n ≤ m → ¬ (n ≡ m) → n < m
below n m few apart = elim (cases_lt n m) [ inl less ↦ less | inr more ↦ absurd (apart (omega arith)) ]

pub failure_can_be_mended : FailureCanBeMended
failure_can_be_mended T i l w f Later same_line fails store why =
    let c = crashes T i f fails in
    can-store T f.lost.store f.place l w same_line store (act-within T f.place c.here c.is_here).0 why
failure_can_be_mended T i l w f Unflushed same_line fails store why =
    let c = crashes T i f fails in
    can-flush T f.lost.store l f.lost.store w w (Some f.place) store store (below f.lost.store f.place why.0 (c.apart l w store))
failure_can_be_mended T i l w f (Unfenced flush thread other) same_line fails store why =
    let c = crashes T i f fails in
    let is_flush : IsAct T flush (Flushes thread l) = why.1.is_flush in
    let apart : ¬ (flush ≡ f.place) =
    λ same. c.no_flush thread l (act-unique T f.place c.here (Flushes thread l) c.is_here (subst (λ (n : ℕ). IsAct T n (Flushes thread l)) same is_flush)) in
    can-fence T flush thread l (Some f.place) is_flush (below flush f.place why.1.by_now apart)

pub loss_can_be_mended : LossCanBeMended
loss_can_be_mended T l x last w v Later store is_last why = absurd (omega (arith, why, (act-within T x (Stores l w) store).1))
loss_can_be_mended T l x last w v Unflushed store is_last why = can-flush T x l last w v None store is_last tt
loss_can_be_mended T l x last w v (Unfenced flush thread other) store is_last why = can-fence T flush thread l None why.1.is_flush tt
