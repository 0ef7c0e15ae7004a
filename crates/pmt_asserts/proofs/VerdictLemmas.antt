-- The verdicts of all assertions, from that of each.
use Rattle.std.proofs.Common.{◌≡◌, ℕ, zero, suc, ◌<◌, ◌≤◌, ◌⊎◌, ◌↔◌, inl, inr, Bool, true, false, List, [], ◌∷◌, ◌++◌, length, Option, Some, None, refl, sym, ap, subst, ◌∙◌, arith}
use Rattle.std.specs.Prelude.{IsTrue, filter_map}
use Rattle.std.proofs.lemmas.Bool.{cases_lt, false≢true}
use Rattle.std.proofs.lemmas.Option.{same_Some, slice_get_within}
use Rattle.pmt_laws.specs.Prelude.{Event, Verdict, Recording, event, history, IsRising, Has, PersistPasses, OrderedPasses, IsVerdictOf, OfPersist, OfOrdered, HasVerdict, InEventOrder, IsVerdicts, AllZip}
use Rattle.pmt_asserts.specs.Tables.{IsVerdictAt, asserts, AreAssertions}

-- one number more at the end
rising-push : (low n : ℕ) (ks : List ℕ) → IsRising low ks → ((k : ℕ) → Has ks k → k < n) → low < n → IsRising low (ks ++ n ∷ [])
rising-push low n [] rising below h = (h, tt)
rising-push low n (k ∷ ks) rising below h = (rising.0, rising-push k n ks rising.1 (λ j has. below j (inr has)) (below k (inl refl)))

has-left : (ks : List ℕ) (n k : ℕ) → Has ks k → Has (ks ++ n ∷ []) k
has-left [] n k has = absurd has
has-left (j ∷ ks) n k (inl e) = inl e
has-left (j ∷ ks) n k (inr has) = inr (has-left ks n k has)

has-last : (ks : List ℕ) (n : ℕ) → Has (ks ++ n ∷ []) n
has-last [] n = inl refl
has-last (j ∷ ks) n = inr (has-last ks n)

has-cases : (ks : List ℕ) (n k : ℕ) → Has (ks ++ n ∷ []) k → Has ks k ⊎ (n ≡ k)
has-cases [] n k (inl e) = inr e
has-cases [] n k (inr has) = absurd has
has-cases (j ∷ ks) n k (inl e) = inl (inl e)
has-cases (j ∷ ks) n k (inr has) = elim (has-cases ks n k has) [ inl before ↦ inl (inr before) | inr last ↦ inr last ]

-- the next event is no assertion
pub assertions-skip :
    (T : Recording) (n : ℕ) (ks : List ℕ) (e : Event) → event T (suc n) ≡ Some e → asserts e.op ≡ false → AreAssertions T n ks → AreAssertions T (suc n) ks
assertions-skip T n ks e at none are = record {
  rising = are.rising;
  within = λ k has. omega (arith, are.within k has);
  all = λ k d h there is.
      elim (cases_lt n k) [
        | inl past ↦
            let same : suc n ≡ k = omega (arith, h, past) in
            let event_same : e ≡ d = same_Some e d (sym at ∙ ap (event T) same ∙ there) in
            absurd (false≢true (sym none ∙ ap (λ (x : Event). asserts x.op) event_same ∙ is))
        | inr before ↦ are.all k d before there is
      ];
}

-- the next event is taken
pub assertions-take : (T : Recording) (n : ℕ) (ks : List ℕ) → AreAssertions T n ks → AreAssertions T (suc n) (ks ++ suc n ∷ [])
assertions-take T n ks are = record {
  rising = rising-push 0 (suc n) ks are.rising (λ k has. omega (arith, are.within k has)) (omega arith);
  within = λ k has. elim (has-cases ks (suc n) k has) [ inl before ↦ omega (arith, are.within k before) | inr last ↦ omega (arith, last) ];
  all = λ k d h there is.
      elim (cases_lt n k) [
        | inl past ↦ let same : suc n ≡ k = omega (arith, h, past) in subst (Has (ks ++ suc n ∷ [])) same (has-last ks (suc n))
        | inr before ↦ has-left ks (suc n) k (are.all k d before there is)
      ];
}

-- an event's number is within the trace
pub number-within : (T : Recording) (n : ℕ) (e : Event) → event T n ≡ Some e → n ≤ length T.events
number-within T zero e at = omega arith
number-within T (suc n) e at = let h = slice_get_within T.events n e at in omega (arith, h)

-- the number of a verdict is among those of the assertions
has-verdict : (T : Recording) (ks : List ℕ) (v : Verdict) → AreAssertions T (length T.events) ks → IsVerdictOf T v → Has ks v.event
has-verdict T ks v are (OfPersist e at r op kind pass) = are.all v.event e (number-within T v.event e at) at (subst (λ o. asserts o ≡ true) (sym op) refl)
has-verdict T ks v are (OfOrdered e at r q op kind pass) = are.all v.event e (number-within T v.event e at) at (subst (λ o. asserts o ≡ true) (sym op) refl)

-- two answers to one question
same-answer : (a b : Bool) (P : Type 0) → IsTrue a ↔ P → IsTrue b ↔ P → a ≡ b
same-answer true true P f g = refl
same-answer true false P f g = sym (g.1 (f.0 refl))
same-answer false true P f g = f.1 (g.0 refl)
same-answer false false P f g = refl

same-verdict : (v w : Verdict) → v.event ≡ w.event → v.ordered ≡ w.ordered → v.pass ≡ w.pass → v ≡ w
same-verdict v w event_same kind pass =
    let by_event : ℕ → Verdict = λ n. record { event = n; ordered = v.ordered; pass = v.pass } in
    let by_kind : Bool → Verdict = λ b. record { event = w.event; ordered = b; pass = v.pass } in
    let by_pass : Bool → Verdict = λ b. record { event = w.event; ordered = w.ordered; pass = b } in
    ap by_event event_same ∙ ap by_kind kind ∙ ap by_pass pass

-- an event has one verdict
pub verdict-unique : (T : Recording) (v w : Verdict) → v.event ≡ w.event → IsVerdictOf T v → IsVerdictOf T w → v ≡ w
verdict-unique T v w same (OfPersist e at r op kind pass) (OfPersist e' at' r' op' kind' pass') =
    let events : e ≡ e' = same_Some e e' (sym at ∙ ap (event T) same ∙ at') in
    let ranges : r ≡ r' = cc (events, op, op') in
    same-verdict v w same (kind ∙ sym kind') (same-answer v.pass w.pass (PersistPasses (history T w.event) r') (subst (λ q. IsTrue v.pass ↔ PersistPasses (history T w.event) q) ranges
    (subst (λ n. IsTrue v.pass ↔ PersistPasses (history T n) r) same pass)) pass')
verdict-unique T v w same (OfOrdered e at r q op kind pass) (OfOrdered e' at' r' q' op' kind' pass') =
    let events : e ≡ e' = same_Some e e' (sym at ∙ ap (event T) same ∙ at') in
    let first : r ≡ r' = cc (events, op, op') in
    let second : q ≡ q' = cc (events, op, op') in
    same-verdict v w same (kind ∙ sym kind') (same-answer v.pass w.pass (OrderedPasses (history T w.event) r' q') (subst (λ s. IsTrue v.pass ↔ OrderedPasses (history T w.event) r' s) second
    (subst (λ s. IsTrue v.pass ↔ OrderedPasses (history T w.event) s q) first (subst (λ n. IsTrue v.pass ↔ OrderedPasses (history T n) r q) same pass))) pass')
verdict-unique T v w same (OfPersist e at r op kind pass) (OfOrdered e' at' r' q' op' kind' pass') =
    let events : e ≡ e' = same_Some e e' (sym at ∙ ap (event T) same ∙ at') in
    absurd (cc (events, op, op'))
verdict-unique T v w same (OfOrdered e at r q op kind pass) (OfPersist e' at' r' op' kind' pass') =
    let events : e ≡ e' = same_Some e e' (sym at ∙ ap (event T) same ∙ at') in
    absurd (cc (events, op, op'))

-- verdicts from above a number are from above a lesser one
from-lesser : (low n : ℕ) (vs : List Verdict) → low ≤ n → InEventOrder n vs → InEventOrder low vs
from-lesser low n [] h ordered = tt
from-lesser low n (v ∷ vs) h ordered = (omega (arith, h, ordered.0), ordered.1)

abbrev there : List (Option Verdict) → List Verdict
there os = filter_map (λ o. o) os

-- the verdicts of the events with these numbers
verdicts-in :
    (T : Recording) (low : ℕ) (ks : List ℕ) (os : List (Option Verdict)) → IsRising low ks → AllZip (IsVerdictAt T) ks os →
    InEventOrder low (there os) × ((v : Verdict) → HasVerdict (there os) v ↔ (IsVerdictOf T v × Has ks v.event))
verdicts-in T low [] [] rising are = (tt, λ v. (λ h. absurd h, λ h. absurd h.1))
verdicts-in T low [] (o ∷ os) rising are = absurd are
verdicts-in T low (k ∷ ks) [] rising are = absurd are
verdicts-in T low (k ∷ ks) (None ∷ os) rising are =
    let rest = verdicts-in T k ks os rising.1 are.1 in (
      from-lesser low k (there os) (omega (arith, rising.0)) rest.0,
      λ v.
          (λ h. let is = (rest.1 v).0 h in (is.0, inr is.1), λ h. elim h.1 [ inl own ↦ absurd (are.0 v h.0 (sym own)) | inr later ↦ (rest.1 v).1 (h.0, later) ]),
    )
verdicts-in T low (k ∷ ks) (Some w ∷ os) rising are =
    let rest = verdicts-in T k ks os rising.1 are.1 in (
      (omega (arith, rising.0, are.0.0), subst (λ n. InEventOrder n (there os)) (sym are.0.0) rest.0),
      λ v. (
        λ h. elim h [
          | inl same ↦ (subst (IsVerdictOf T) same are.0.1, inl (sym are.0.0 ∙ ap (λ (x : Verdict). x.event) same))
          | inr later ↦ let is = (rest.1 v).0 later in (is.0, inr is.1)
        ],
        λ h. elim h.1 [ inl own ↦ inl (verdict-unique T w v (are.0.0 ∙ own) are.0.1 h.0) | inr later ↦ inr ((rest.1 v).1 (h.0, later)) ],
      ),
    )

-- the verdicts of all assertions
pub verdicts-all : (T : Recording) (ks : List ℕ) (os : List (Option Verdict)) → AreAssertions T (length T.events) ks → AllZip (IsVerdictAt T) ks os → IsVerdicts T (filter_map (λ o. o) os)
verdicts-all T ks os are each =
    let all = verdicts-in T 0 ks os are.rising each in
    record { ordered = all.0; just = λ v. (λ h. ((all.1 v).0 h).0, λ is. (all.1 v).1 (is, has-verdict T ks v are is)) }
