-- The failures that are shown are those of the events, in order.
use Rattle.std.proofs.Common.{◌≡◌, ℕ, zero, suc, inl, inr, ◌<◌, ◌≤◌, ◌==◌, Bool, true, false, List, [], ◌∷◌, ◌++◌, take, map, Option, None, Some, sym, ap, subst, ◌∙◌, arith, true≢false}
use Rattle.std.specs.Prelude.{MatchOption}
use Rattle.std.proofs.lemmas.List.{map-append}
use Rattle.std.proofs.lemmas.List.Elements.{All-push}
use Rattle.std.proofs.lemmas.Bool.{cond_both}
use Rattle.pmt_explain.specs.Prelude.{Event, Op, Store, Clwb, ClflushOpt, Clflush, Sfence, Mfence, IsPersist, IsOrderedBefore, Recording, event, history, count_at, front_at, All, AllByRecursion, Failure, persisted_at, IsLost, IsFailureOf, IsFailureAt}
use Rattle.pmt_laws.proofs.Histories.{front-le-count}
use Rattle.pmt_reasons.proofs.CauseLemmas.{pending_by_fronts}
use Rattle.pmt_reasons.proofs.FailureLaws.{persist_failure_fails, ordered_failure_fails}
use Rattle.pmt_explain.specs.CauseOf.{IsCauseOf}
use Rattle.pmt_explain.specs.Grouping.{Picks}
use Rattle.pmt_explain.proofs.GroupingLemmas.{picks-more, picks-other}
use Rattle.pmt_failures.specs.declared.failures.ShownFailure.{ShownFailure}
use Rattle.pmt_failures.specs.Showing.{IsShown, Fails, AreShown}

-- ---- What has a failure fails

abbrev is_some_failure : Option Failure → Bool
is_some_failure None = false
is_some_failure (Some f) = true

some-none : (f : Failure) → ¬ (Some f ≡ None)
some-none f e = true≢false (ap is_some_failure e)

op-fails : (T : Recording) (i : ℕ) (op : Op) (f : Failure) → IsFailureOf T i op (Some f) → ¬ IsFailureOf T i op None
op-fails T i (Store w) f h none = some-none f h
op-fails T i (Clwb a) f h none = some-none f h
op-fails T i (ClflushOpt a) f h none = some-none f h
op-fails T i (Clflush a) f h none = some-none f h
op-fails T i Sfence f h none = some-none f h
op-fails T i Mfence f h none = some-none f h
op-fails T i (IsPersist A) f h none = persist_failure_fails T i A f h none
op-fails T i (IsOrderedBefore A B) f h none = ordered_failure_fails T i A B f h none

event-fails : (T : Recording) (i : ℕ) (o : Option Event) (f : Failure) → MatchOption o (Some f ≡ None) (λ (e : Event). IsFailureOf T i e.op (Some f)) →
    ¬ MatchOption o (◌≡◌ {A = Option Failure} None None) (λ (e : Event). IsFailureOf T i e.op None)
event-fails T i None f h none = some-none f h
event-fails T i (Some e) f h none = op-fails T i e.op f h none

pub failure-fails : (T : Recording) (i : ℕ) (f : Failure) → IsFailureAt T i (Some f) → Fails T i
failure-fails T i f h = event-fails T i (event T i) f h

-- ---- The list, one event more

abbrev pub number_of : ShownFailure → ℕ
number_of s = s.event

pub shown-more : (T : Recording) (numbers : List ℕ) (shown new : List ShownFailure) (n : ℕ) (s : ShownFailure) →
    AreShown T numbers shown → IsShown T s → s.event ≡ n → new ≡ shown ++ s ∷ [] → AreShown T (numbers ++ n ∷ []) new
shown-more T numbers shown new n s before it is e =
    let fails : Fails T n = subst (Fails T) is (failure-fails T s.event s.failure it.fails) in
    let events : map number_of new ≡ map number_of shown ++ n ∷ [] =
    ap (map number_of) e ∙ map-append number_of shown (s ∷ []) ∙ ap (λ (k : ℕ). map number_of shown ++ k ∷ []) is in
    record {
      each = subst (All (IsShown T)) (sym e) (All-push (IsShown T) shown s before.each it);
      picked = subst (Picks (Fails T) (numbers ++ n ∷ [])) (sym events) (picks-more (Fails T) numbers (map number_of shown) n before.picked fails);
    }

pub shown-passing : (T : Recording) (numbers : List ℕ) (shown : List ShownFailure) (n : ℕ) → AreShown T numbers shown → IsFailureAt T n None → AreShown T (numbers ++ n ∷ []) shown
shown-passing T numbers shown n before passes = record {
  each = before.each;
  picked = picks-other (Fails T) numbers (map number_of shown) n before.picked (λ fails. fails passes);
}

-- ---- A failure's lost store has a cause

low : (T : Recording) (n : ℕ) (full : Option ℕ) (l : ℕ) → front_at T l n ≤ persisted_at T n full l
low T n None l = omega arith
low T n (Some k) l =
    let few = front-le-count l (history T n) in
    cond_both (l == k) (count_at T l n) (front_at T l n) (λ (v : ℕ). front_at T l n ≤ v) (λ same. few) (λ other. omega arith)

lost-of_op : (T : Recording) (i : ℕ) (op : Op) (f : Failure) → IsFailureOf T i op (Some f) → (full : Option ℕ) × IsLost T f.place full f.lost.store
lost-of_op T i (Store w) f h = absurd (some-none f h)
lost-of_op T i (Clwb a) f h = absurd (some-none f h)
lost-of_op T i (ClflushOpt a) f h = absurd (some-none f h)
lost-of_op T i (Clflush a) f h = absurd (some-none f h)
lost-of_op T i Sfence f h = absurd (some-none f h)
lost-of_op T i Mfence f h = absurd (some-none f h)
lost-of_op T i (IsPersist A) f h = (None, subst (λ (n : ℕ). IsLost T n None f.lost.store) (sym h.place) h.lost.is_lost)
lost-of_op T i (IsOrderedBefore A B) f h = (Some h.line, subst (λ (n : ℕ). IsLost T n (Some h.line) f.lost.store) (sym h.place) h.lost.is_lost)

no-cause : (T : Recording) (n x : ℕ) (full : Option ℕ) → IsLost T n full x → ¬ IsCauseOf T n x None
no-cause T n x full lost none =
    let above : front_at T lost.line n < count_at T lost.line x = omega (arith, low T n full lost.line, lost.missing) in
    none lost.line lost.what lost.is_store ((pending_by_fronts T lost.line n x).1 above)

has-cause : (T : Recording) (i : ℕ) (o : Option Event) (f : Failure) → MatchOption o (Some f ≡ None) (λ (e : Event). IsFailureOf T i e.op (Some f)) → ¬ IsCauseOf T f.place f.lost.store None
has-cause T i None f h = absurd (some-none f h)
has-cause T i (Some e) f h = let lost = lost-of_op T i e.op f h in no-cause T f.place f.lost.store lost.0 lost.1

pub failure-has_cause : (T : Recording) (i : ℕ) (f : Failure) → IsFailureAt T i (Some f) → ¬ IsCauseOf T f.place f.lost.store None
failure-has_cause T i f h = has-cause T i (event T i) f h

-- ---- Lists whose numbers all have a property

pub all-take : (P : ℕ → Type 0) (n : ℕ) (xs : List ℕ) → AllByRecursion P xs → AllByRecursion P (take n xs)
all-take P zero xs h = tt
all-take P (suc n) [] h = tt
all-take P (suc n) (x ∷ xs) h = (h.0, all-take P n xs h.1)

pub all-picked : (P : ℕ → Type 0) (xs ys : List ℕ) → Picks P xs ys → AllByRecursion P xs → ys ≡ xs
all-picked P [] ys none h = none
all-picked P (x ∷ xs) ys (inl (own, (zs, is, rest))) h = is ∙ ap (λ (ws : List ℕ). x ∷ ws) (all-picked P xs zs rest h.1)
all-picked P (x ∷ xs) ys (inr (other, rest)) h = absurd (other h.0)
