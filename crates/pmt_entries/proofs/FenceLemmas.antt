-- Each trace has its own next fences.
use Rattle.std.proofs.Common.{◌≡◌, ℕ, zero, suc, ◌+◌, ◌<◌, List, [], ◌∷◌, length, Some, refl, sym, ap, subst, ◌∙◌, arith}
use Rattle.std.specs.Prelude.{slice_get}
use Rattle.std.proofs.lemmas.Option.{same_Some, slice_get-get_or, slice_get_within}
use Rattle.pmt_laws.specs.Prelude.{Event, Sfence, Fences, Recording, IsAct, act, event}
use Rattle.pmt_laws.proofs.Histories.{act-within}
use Rattle.pmt_entries.specs.Prelude.{IsFenceAfter, IsFirst, past_of, AreOwnFences, fence_by}
use Rattle.pmt_explain.proofs.FirstLemmas.{first-none}
use Rattle.pmt_hints.proofs.StepLemmas.{fence-decides, next-step}

event-at : (T : Recording) (n : ℕ) → n < length T.events → (e : Event) × (event T (suc n) ≡ Some e)
event-at T n within = (_, slice_get-get_or T.events n (record { thread = 0; op = Sfence }) within)

-- of a thread after event n, before which d events come last
next-fence : (T : Recording) (t d n : ℕ) → n + d ≡ length T.events → (p : ℕ) × IsFirst (IsFenceAfter T t n) (past_of T) p
next-fence T t zero n same = (past_of T, first-none (IsFenceAfter T t n) (past_of T) (λ k h. absurd (omega (arith, h.0, (act-within T k (Fences t) h.1).1, same))))
next-fence T t (suc d) n same =
    let rest = next-fence T t d (suc n) (omega (arith, same)) in
    let e = event-at T n (omega (arith, same)) in
    let a = act T.format e.0 in
    (fence_by a (suc n) t rest.0, next-step (λ k. IsAct T k (Fences t)) (past_of T) n rest.0 _ (omega (arith, same)) (fence-decides T n (suc n) t rest.0 a refl (e.0, e.1, refl)) rest.1)

-- of all events after event n
abbrev AreFrom : Recording → ℕ → List ℕ → Type 0
AreFrom T n fences = (k i p : ℕ) (e : Event) → i ≡ suc (k + n) → slice_get fences k ≡ Some p → event T i ≡ Some e → IsFirst (IsFenceAfter T e.thread i) (past_of T) p

one-more : (T : Recording) (n x : ℕ) (xs : List ℕ) (e : Event) → event T (suc n) ≡ Some e → IsFirst (IsFenceAfter T e.thread (suc n)) (past_of T) x → AreFrom T (suc n) xs → AreFrom T n (x ∷ xs)
one-more T n x xs e is first rest zero i p g number at here =
    let own : suc n ≡ i = omega (arith, number) in
    let same : e ≡ g = same_Some e g (sym is ∙ ap (event T) own ∙ here) in
    subst (λ (d : Event). IsFirst (IsFenceAfter T d.thread i) (past_of T) p) same (subst (λ j. IsFirst (IsFenceAfter T e.thread j) (past_of T) p) own (subst (IsFirst (IsFenceAfter T e.thread (suc n)) (past_of T)) (same_Some x p at) first))
one-more T n x xs e is first rest (suc k) i p g number at here = rest k i p g (omega (arith, number)) at here

fences-from : (T : Recording) (d n : ℕ) → n + d ≡ length T.events → (fences : List ℕ) × (length fences ≡ d) × AreFrom T n fences
fences-from T zero n same = ([], refl, λ k i p e number at here. absurd (omega (arith, slice_get_within [] k p at)))
fences-from T (suc d) n same =
    let e = event-at T n (omega (arith, same)) in
    let first = next-fence T e.0.thread d (suc n) (omega (arith, same)) in
    let rest = fences-from T d (suc n) (omega (arith, same)) in
    (first.0 ∷ rest.0, ap suc rest.1, one-more T n first.0 rest.0 e.0 e.1 first.1 rest.2)

pub own-fences : (T : Recording) → (fences : List ℕ) × AreOwnFences T fences
own-fences T = let all = fences-from T (length T.events) 0 (omega arith) in (all.0, record { size = all.1; each = λ n p e at here. all.2 n (suc n) p e (omega arith) at here })
