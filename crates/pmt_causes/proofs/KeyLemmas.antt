-- The keys of failed assertions.
use Rattle.std.proofs.Common.{◌≡◌, ℕ, ◌-◌, ◌<◌, ◌≤◌, Bool, true, false, List, [], ◌∷◌, ◌++◌, map, length, get_or, Option, None, Some, refl, sym, ap, subst, arith, true≢false}
use Rattle.std.specs.Prelude.{MatchOption}
use Rattle.std.proofs.lemmas.List.{map-append}
use Rattle.std.proofs.lemmas.List.Elements.{All-push}
use Rattle.pmt_explain.specs.Prelude.{Event, Op, Store, Clwb, ClflushOpt, Clflush, Sfence, Mfence, IsPersist, IsOrderedBefore, Span, Stores, Recording, event, history, count_at, front_at, PersistPasses, OrderedPasses, option_map, Failure, Cause, IsLost, IsFailureOf, IsFailureAt, IsPersistFailure, IsOrderedFailure}
use Rattle.pmt_laws.proofs.Histories.{act-within}
use Rattle.pmt_reasons.proofs.CauseLemmas.{pending_by_fronts}
use Rattle.pmt_reasons.proofs.CauseLaws.{cause_exists}
use Rattle.pmt_reasons.proofs.FailureLaws.{persist_failure_fails, ordered_failure_fails}
use Rattle.pmt_explain.specs.CauseOf.{IsCauseOf}
use Rattle.pmt_explain.specs.Grouping.{Picks}
use Rattle.pmt_explain.proofs.LosingLemmas.{front-le-persisted}
use Rattle.pmt_explain.proofs.GroupingLemmas.{picks-more, picks-other}
use Rattle.pmt_causes.specs.declared.grouping.Keyed.{Keyed}
use Rattle.pmt_causes.specs.declared.failure_keys.AssertionKind.{AssertionKind}
use Rattle.pmt_causes.specs.declared.failure_keys.AssertionKind.TheVariants.{Persist, Ordered}
use Rattle.pmt_causes.specs.declared.failure_keys.FailureKey.{FailureKey}
use Rattle.pmt_causes.specs.Groups.{kind_of, cause_by, IsAssertion, IsFailureKey, OfPersist, OfOrdered, Fails, IsKeyed, AreKeyed, key_by, with_keyed}
use Rattle.pmt_explain.specs.Following.{AreNextFlushes, ByStore}
use Rattle.pmt_explain.proofs.UpcomingLemmas.{next-on}
use Rattle.pmt_causes.proofs.FlushingLemmas.{cause-kind}

-- ---- What has a failure fails

abbrev is_some_failure : Option Failure → Bool
is_some_failure None = false
is_some_failure (Some f) = true

some-none : (f : Failure) → ¬ (Some f ≡ None)
some-none f e = true≢false (ap is_some_failure e)

op-fails : (T : Recording) (i : ℕ) (op : Op) (f : Failure) → IsFailureOf T i op (Some f) → ¬ IsFailureOf T i op None
op-fails T i (Store w) f h none = some-none f h
op-fails T i (Clwb a) f h none = some-none f h
op-fails T i (ClflushOpt a) f h none = some-none f h
op-fails T i (Clflush a) f h none = some-none f h
op-fails T i Sfence f h none = some-none f h
op-fails T i Mfence f h none = some-none f h
op-fails T i (IsPersist A) f h none = persist_failure_fails T i A f h none
op-fails T i (IsOrderedBefore A B) f h none = ordered_failure_fails T i A B f h none

event-fails : (T : Recording) (i : ℕ) (o : Option Event) (f : Failure) → MatchOption o (Some f ≡ None) (λ (e : Event). IsFailureOf T i e.op (Some f)) →
    ¬ MatchOption o (◌≡◌ {A = Option Failure} None None) (λ (e : Event). IsFailureOf T i e.op None)
event-fails T i None f h none = some-none f h
event-fails T i (Some e) f h none = op-fails T i e.op f h none

failure-fails : (T : Recording) (i : ℕ) (f : Failure) → IsFailureAt T i (Some f) → Fails T i
failure-fails T i f h = event-fails T i (event T i) f h

at-event : (T : Recording) (i : ℕ) (e : Event) (o : Option Failure) → event T i ≡ Some e → IsFailureOf T i e.op o → IsFailureAt T i o
at-event T i e o is h = subst (λ (x : Option Event). MatchOption x (o ≡ None) (λ (y : Event). IsFailureOf T i y.op o)) (sym is) h

-- ---- The key of a failure

record HasCause (T : Recording) (n x flush : ℕ) : Type 0 where
  why : Cause
  is_cause : IsCauseOf T n x (Some why)
  kind : cause_by n x flush ≡ kind_of why

-- a lost store has a cause
lost-cause : (T : Recording) (n x : ℕ) (full : Option ℕ) (flushes : List ℕ) → n ≤ length T.events → AreNextFlushes T flushes → IsLost T n full x → HasCause T n x (get_or flushes (x - 1) 0)
lost-cause T n x full flushes within are lost =
    let above : front_at T lost.line n < count_at T lost.line x = omega (arith, front-le-persisted T n lost.line full, lost.missing) in
    let c = (cause_exists T lost.line n x lost.what lost.is_store).0 ((pending_by_fronts T lost.line n x).1 above) in
    record {
      why = c.0;
      is_cause = record { line = lost.line; what = lost.what; is_store = lost.is_store; why = c.1 };
      kind = cause-kind T lost.line n x (get_or flushes (x - 1) 0) c.0 within (next-on T flushes x lost.line 0 are (ByStore lost.what lost.is_store)) c.1;
    }

key-from : (T : Recording) (labels : List (Option ℕ)) (flushes : List ℕ) (i n : ℕ) (full : Option ℕ) (e : Event) (kind : AssertionKind) (A : Span) (f : Failure) → event T i ≡ Some e →
    IsAssertion e.op kind A → IsFailureOf T i e.op (Some f) → f.place ≡ n → n ≤ length T.events → AreNextFlushes T flushes → IsLost T n full f.lost.store →
    IsFailureKey T labels i (key_by labels flushes i e.thread kind f)
key-from T labels flushes i n full e kind A f is assertion fails place within are lost =
    let at : HasCause T f.place f.lost.store (get_or flushes (f.lost.store - 1) 0) =
    subst (λ m. HasCause T m f.lost.store (get_or flushes (f.lost.store - 1) 0)) (sym place) (lost-cause T n f.lost.store full flushes within are lost) in
    record {
      failure = f;
      fails = at-event T i e (Some f) is fails;
      assertion = e;
      is = is;
      range = A;
      kind = assertion;
      why = at.why;
      is_cause = at.is_cause;
      cause = at.kind;
      origin = refl;
    }

-- of an isPersist
pub persist-key : (T : Recording) (labels : List (Option ℕ)) (flushes : List ℕ) (i : ℕ) (e : Event) (A : Span) (f : Failure) → event T i ≡ Some e → e.op ≡ IsPersist A → i ≤ length T.events →
    AreNextFlushes T flushes → IsPersistFailure T i A f → IsFailureKey T labels i (key_by labels flushes i e.thread Persist f)
persist-key T labels flushes i e A f is op within are failure =
    key-from T labels flushes i i None e Persist A f is (subst (λ o. IsAssertion o Persist A) (sym op) (OfPersist A)) (subst (λ o. IsFailureOf T i o (Some f)) (sym op) failure) failure.place within are
    failure.lost.is_lost

-- of an isOrderedBefore
pub ordered-key : (T : Recording) (labels : List (Option ℕ)) (flushes : List ℕ) (i : ℕ) (e : Event) (A B : Span) (f : Failure) → event T i ≡ Some e → e.op ≡ IsOrderedBefore A B →
    AreNextFlushes T flushes → IsOrderedFailure T i A B f → IsFailureKey T labels i (key_by labels flushes i e.thread Ordered f)
ordered-key T labels flushes i e A B f is op are failure =
    let within = (act-within T failure.kept.store (Stores failure.line failure.what) failure.is_store).1 in
    key-from T labels flushes i failure.kept.store (Some failure.line) e Ordered A f is (subst (λ o. IsAssertion o Ordered A) (sym op) (OfOrdered A B))
    (subst (λ o. IsFailureOf T i o (Some f)) (sym op) failure) failure.place within are failure.lost.is_lost

-- the key of what is found of an assertion
pub persist-keyed : (T : Recording) (labels : List (Option ℕ)) (flushes : List ℕ) (i : ℕ) (e : Event) (A : Span) (o : Option Failure) → event T i ≡ Some e → e.op ≡ IsPersist A → i ≤ length T.events →
    AreNextFlushes T flushes → MatchOption o (PersistPasses (history T i) A) (IsPersistFailure T i A) →
    MatchOption (option_map (key_by labels flushes i e.thread Persist) o) (IsFailureAt T i None) (IsFailureKey T labels i)
persist-keyed T labels flushes i e A None is op within are passes = at-event T i e None is (subst (λ o. IsFailureOf T i o None) (sym op) passes)
persist-keyed T labels flushes i e A (Some f) is op within are failure = persist-key T labels flushes i e A f is op within are failure

pub ordered-keyed : (T : Recording) (labels : List (Option ℕ)) (flushes : List ℕ) (i : ℕ) (e : Event) (A B : Span) (o : Option Failure) → event T i ≡ Some e → e.op ≡ IsOrderedBefore A B →
    AreNextFlushes T flushes → MatchOption o (OrderedPasses (history T i) A B) (IsOrderedFailure T i A B) →
    MatchOption (option_map (key_by labels flushes i e.thread Ordered) o) (IsFailureAt T i None) (IsFailureKey T labels i)
ordered-keyed T labels flushes i e A B None is op are passes = at-event T i e None is (subst (λ o. IsFailureOf T i o None) (sym op) passes)
ordered-keyed T labels flushes i e A B (Some f) is op are failure = ordered-key T labels flushes i e A B f is op are failure

-- ---- The list, one event more

abbrev number_of : Keyed FailureKey → ℕ
number_of x = x.number

pub keyed-none : (T : Recording) (labels : List (Option ℕ)) → AreKeyed T labels [] []
keyed-none T labels = record { each = λ p d within. absurd (omega arith); picked = refl }

pub keyed-more : (T : Recording) (labels : List (Option ℕ)) (numbers : List ℕ) (items : List (Keyed FailureKey)) (n : ℕ) (o : Option FailureKey) → AreKeyed T labels numbers items →
    MatchOption o (IsFailureAt T n None) (IsFailureKey T labels n) → AreKeyed T labels (numbers ++ n ∷ []) (with_keyed n o items)
keyed-more T labels numbers items n None before passes = record { each = before.each; picked = picks-other (Fails T) numbers (map number_of items) n before.picked (λ fails. fails passes) }
keyed-more T labels numbers items n (Some k) before it = record {
  each = All-push (IsKeyed T labels) items (record { key = k; number = n }) before.each it;
  picked =
      subst (Picks (Fails T) (numbers ++ n ∷ [])) (sym (map-append number_of items (record { key = k; number = n } ∷ [])))
      (picks-more (Fails T) numbers (map number_of items) n before.picked (failure-fails T n it.failure it.fails));
}
