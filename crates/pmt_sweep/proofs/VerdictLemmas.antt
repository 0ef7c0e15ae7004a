-- The verdicts so far, while the events go by.
use Rattle.std.proofs.Common.{◌≡◌, ◌≢◌, ℕ, suc, ◌<◌, ◌≤◌, ◌⊎◌, inl, inr, Bool, true, false, List, [], ◌∷◌, ◌++◌, length, Option, Some, None, refl, sym, ap, subst, ◌∙◌, arith}
use Rattle.std.specs.Prelude.{◌↔◌, IsTrue}
use Rattle.std.proofs.lemmas.Bool.{cases_lt}
use Rattle.std.proofs.lemmas.Option.{same_Some}
use Rattle.pmt_laws.specs.Prelude.{Verdict, Act, Asserts, Recording, IsAct, act_of, event, history, PersistPasses, OrderedPasses, IsVerdictOf, OfPersist, OfOrdered, HasVerdict, InEventOrder, IsVerdicts}
use Rattle.pmt_laws.proofs.Histories.{act-unique, act-within}
use Rattle.pmt_sweep.specs.Found.{IsVerdictAt, with_verdict, AreVerdictsTo}

-- ---- One verdict

-- its event is an assertion
verdict-act : (T : Recording) (v : Verdict) → IsVerdictOf T v → IsAct T v.event Asserts
verdict-act T v (OfPersist e at r op kind pass) = (e, at, ap (act_of T.format e.thread) op)
verdict-act T v (OfOrdered e at r q op kind pass) = (e, at, ap (act_of T.format e.thread) op)

-- two answers to one question
same-answer : (a b : Bool) (P : Type 0) → IsTrue a ↔ P → IsTrue b ↔ P → a ≡ b
same-answer true true P f g = refl
same-answer true false P f g = sym (g.1 (f.0 refl))
same-answer false true P f g = f.1 (g.0 refl)
same-answer false false P f g = refl

same-verdict : (v w : Verdict) → v.event ≡ w.event → v.ordered ≡ w.ordered → v.pass ≡ w.pass → v ≡ w
same-verdict v w event_same kind pass =
    let by_event : ℕ → Verdict = λ n. record { event = n; ordered = v.ordered; pass = v.pass } in
    let by_kind : Bool → Verdict = λ b. record { event = w.event; ordered = b; pass = v.pass } in
    let by_pass : Bool → Verdict = λ b. record { event = w.event; ordered = w.ordered; pass = b } in
    ap by_event event_same ∙ ap by_kind kind ∙ ap by_pass pass

-- an event has one verdict
verdict-unique : (T : Recording) (v w : Verdict) → v.event ≡ w.event → IsVerdictOf T v → IsVerdictOf T w → v ≡ w
verdict-unique T v w same (OfPersist e at r op kind pass) (OfPersist e' at' r' op' kind' pass') =
    let events : e ≡ e' = same_Some e e' (sym at ∙ ap (event T) same ∙ at') in
    let ranges : r ≡ r' = cc (events, op, op') in
    same-verdict v w same (kind ∙ sym kind') (same-answer v.pass w.pass (PersistPasses (history T w.event) r') (subst (λ q. IsTrue v.pass ↔ PersistPasses (history T w.event) q) ranges
    (subst (λ n. IsTrue v.pass ↔ PersistPasses (history T n) r) same pass)) pass')
verdict-unique T v w same (OfOrdered e at r q op kind pass) (OfOrdered e' at' r' q' op' kind' pass') =
    let events : e ≡ e' = same_Some e e' (sym at ∙ ap (event T) same ∙ at') in
    let first : r ≡ r' = cc (events, op, op') in
    let second : q ≡ q' = cc (events, op, op') in
    same-verdict v w same (kind ∙ sym kind') (same-answer v.pass w.pass (OrderedPasses (history T w.event) r' q') (subst (λ s. IsTrue v.pass ↔ OrderedPasses (history T w.event) r' s) second
    (subst (λ s. IsTrue v.pass ↔ OrderedPasses (history T w.event) s q) first (subst (λ n. IsTrue v.pass ↔ OrderedPasses (history T n) r q) same pass))) pass')
verdict-unique T v w same (OfPersist e at r op kind pass) (OfOrdered e' at' r' q' op' kind' pass') =
    let events : e ≡ e' = same_Some e e' (sym at ∙ ap (event T) same ∙ at') in
    absurd (cc (events, op, op'))
verdict-unique T v w same (OfOrdered e at r q op kind pass) (OfPersist e' at' r' op' kind' pass') =
    let events : e ≡ e' = same_Some e e' (sym at ∙ ap (event T) same ∙ at') in
    absurd (cc (events, op, op'))

-- ---- Lists of them

ordered-push : (low : ℕ) (vs : List Verdict) (v : Verdict) → InEventOrder low vs → ((w : Verdict) → HasVerdict vs w → w.event < v.event) → low < v.event → InEventOrder low (vs ++ v ∷ [])
ordered-push low [] v ordered below h = (h, tt)
ordered-push low (w ∷ vs) v ordered below h = (ordered.0, ordered-push w.event vs v ordered.1 (λ x has. below x (inr has)) (below w (inl refl)))

has-left : (vs : List Verdict) (v w : Verdict) → HasVerdict vs w → HasVerdict (vs ++ v ∷ []) w
has-left [] v w has = absurd has
has-left (x ∷ vs) v w (inl same) = inl same
has-left (x ∷ vs) v w (inr has) = inr (has-left vs v w has)

has-last : (vs : List Verdict) (v w : Verdict) → v ≡ w → HasVerdict (vs ++ v ∷ []) w
has-last [] v w same = inl same
has-last (x ∷ vs) v w same = inr (has-last vs v w same)

has-cases : (vs : List Verdict) (v w : Verdict) → HasVerdict (vs ++ v ∷ []) w → HasVerdict vs w ⊎ (v ≡ w)
has-cases [] v w (inl same) = inr same
has-cases [] v w (inr has) = absurd has
has-cases (x ∷ vs) v w (inl same) = inl (inl same)
has-cases (x ∷ vs) v w (inr has) = elim (has-cases vs v w has) [ inl before ↦ inl (inr before) | inr last ↦ inr last ]

-- ---- Event by event

-- no event has come
pub verdicts-start : (T : Recording) → AreVerdictsTo T 0 []
verdicts-start T = record { ordered = tt; just = λ v. (λ has. absurd has, λ is. absurd (none v is.0 is.1)) }
  where
    none : (v : Verdict) → IsVerdictOf T v → v.event ≤ 0 → ⊥
    none v is h = omega (arith, (act-within T v.event Asserts (verdict-act T v is)).0, h)

-- the next event has no verdict
verdicts-none : (T : Recording) (n : ℕ) (vs : List Verdict) → IsVerdictAt T (suc n) None → AreVerdictsTo T n vs → AreVerdictsTo T (suc n) vs
verdicts-none T n vs none are = record {
  ordered = are.ordered;
  just = λ v. (λ has. let is = (are.just v).0 has in (is.0, omega (arith, is.1)), λ is. (are.just v).1 (is.0, by_now v is.0 is.1 (cases_lt n v.event)));
}
  where
    by_now : (v : Verdict) → IsVerdictOf T v → v.event ≤ suc n → (n < v.event) ⊎ (v.event ≤ n) → v.event ≤ n
    by_now v is h (inl past) = absurd (none v is (omega (arith, h, past)))
    by_now v is h (inr before) = before

-- the next event is no assertion
pub verdicts-act : (T : Recording) (n : ℕ) (vs : List Verdict) (a : Act) → IsAct T (suc n) a → a ≢ Asserts → AreVerdictsTo T n vs → AreVerdictsTo T (suc n) vs
verdicts-act T n vs a is other are =
    verdicts-none T n vs (λ v verdict here. other (act-unique T (suc n) a Asserts is (subst (λ i. IsAct T i Asserts) here (verdict-act T v verdict)))) are

-- the next event has this verdict
verdicts-push : (T : Recording) (n : ℕ) (vs : List Verdict) (v : Verdict) → IsVerdictAt T (suc n) (Some v) → AreVerdictsTo T n vs → AreVerdictsTo T (suc n) (vs ++ v ∷ [])
verdicts-push T n vs v is are = record {
  ordered = ordered-push 0 vs v are.ordered (λ w has. omega (arith, is.0, ((are.just w).0 has).1)) (omega (arith, is.0));
  just = λ w. (λ has. sound w (has-cases vs v w has), λ judged. complete w judged.0 judged.1 (cases_lt n w.event));
}
  where
    sound : (w : Verdict) → HasVerdict vs w ⊎ (v ≡ w) → IsVerdictOf T w × (w.event ≤ suc n)
    sound w (inl has) = let before = (are.just w).0 has in (before.0, omega (arith, before.1))
    sound w (inr same) = let number : w.event ≡ suc n = ap (λ (x : Verdict). x.event) (sym same) ∙ is.0 in (subst (IsVerdictOf T) same is.1, omega (arith, number))

    complete : (w : Verdict) → IsVerdictOf T w → w.event ≤ suc n → (n < w.event) ⊎ (w.event ≤ n) → HasVerdict (vs ++ v ∷ []) w
    complete w judged h (inl past) = let number : v.event ≡ w.event = omega (arith, is.0, h, past) in has-last vs v w (verdict-unique T v w number is.1 judged)
    complete w judged h (inr before) = has-left vs v w ((are.just w).1 (judged, before))

-- the next event is judged
pub verdicts-next : (T : Recording) (n : ℕ) (vs : List Verdict) (judged : Option Verdict) → IsVerdictAt T (suc n) judged → AreVerdictsTo T n vs → AreVerdictsTo T (suc n) (with_verdict vs judged)
verdicts-next T n vs None none are = verdicts-none T n vs none are
verdicts-next T n vs (Some v) is are = verdicts-push T n vs v is are

-- all events have come
pub verdicts-end : (T : Recording) (vs : List Verdict) → AreVerdictsTo T (length T.events) vs → IsVerdicts T vs
verdicts-end T vs are = record {
  ordered = are.ordered;
  just = λ v. (λ has. ((are.just v).0 has).0, λ is. (are.just v).1 (is, (act-within T v.event Asserts (verdict-act T v is)).1));
}
