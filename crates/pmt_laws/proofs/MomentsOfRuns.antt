-- The moments of the runs of a history: they are the states of the runs of the histories that it goes on from.
use Rattle.std.proofs.Common.{◌≡◌, ℕ, zero, suc, ◌+◌, ◌-◌, ◌<◌, ◌≤◌, ◌==◌, List, [], ◌∷◌, ◌++◌, refl, sym, ap, subst, ◌∙◌, le_trans, arith}
use Rattle.pmt_laws.specs.Prelude.{AllByRecursion, InBox}
use Rattle.std.proofs.lemmas.Bool.{cond_both}
use Rattle.std.proofs.lemmas.Bool.Decides.{nat_tests}
use Rattle.pmt_model.specs.Machine.{Act, Stores, Flushes, Clflushes, Fences, Outstanding, State, Leads, Stays, Acts, Persists, IsMoment, count, start, after, after_persist}
use Rattle.pmt_laws.proofs.Histories.{count-grows}
use Rattle.pmt_laws.proofs.OutstandingFlushes.{owing}
use Rattle.pmt_laws.proofs.BoxLemmas.{leads-reached, leads-box, box-ends, persisted-step}

-- steps after steps
pub leads-trans : (a b c : State) → Leads a b → Leads b c → Leads a c
leads-trans a b c first Stays = first
leads-trans a b c first (Acts {to} act path allowed) = Acts act (leads-trans a b to first path) allowed
leads-trans a b c first (Persists {to} l path room) = Persists l (leads-trans a b to first path) room

-- steps add acts to a history
pub leads-extends : (s end : State) → Leads s end → (newer : List Act) × (end.history ≡ newer ++ s.history)
leads-extends s end Stays = ([], refl)
leads-extends s end (Acts {to} a path allowed) =
    let before = leads-extends s to path in
    (a ∷ before.0, ap (λ h. a ∷ h) before.1)
leads-extends s end (Persists {to} l path room) = leads-extends s to path

-- a moment of a run of the history has come by the run's first acts
pub passes-split : (h : List Act) (s : State) → IsMoment h s → (newer : List Act) × (h ≡ newer ++ s.history) × Leads start s
passes-split h s passes =
    let more = leads-extends s passes.0 passes.2 in
    (more.0, sym passes.3 ∙ more.1, passes.1)

-- persist steps alone lead from one state to the other
pub record Persisting (s t : State) : Type 0 where
  pub path : Leads s t
  pub is_history : t.history ≡ s.history
  pub is_outstanding : t.outstanding ≡ s.outstanding
  pub grows : (l : ℕ) → s.persisted l ≤ t.persisted l

-- no step at all
persisting_none : (s : State) → Persisting s s
persisting_none s = record { path = Stays; is_history = refl; is_outstanding = refl; grows = λ l. omega arith }

-- persist steps after persist steps
persisting-trans : (a b c : State) → Persisting a b → Persisting b c → Persisting a c
persisting-trans a b c first second = grind (arith, nat_tests, leads-trans)

-- one persist step
persisting_step : (s : State) (l : ℕ) → s.persisted l < count l s.history → Persisting s (after_persist s l)
persisting_step s l room = record {
  path = Persists l Stays room;
  is_history = refl;
  is_outstanding = refl;
  grows = λ k. cond_both (k == l) (suc (s.persisted k)) (s.persisted k) (λ x. s.persisted k ≤ x) (λ same. omega arith) (λ other. omega arith);
}

-- all pending stores of a line, so many, can persist
persist_line : (n : ℕ) (s : State) (l : ℕ) → count l s.history ≡ n + s.persisted l → (t : State) × Persisting s t × (t.persisted l ≡ count l s.history)
persist_line zero s l pending = (s, persisting_none s, omega arith)
persist_line (suc n) s l pending =
    let step = persisted-step s l l refl in
    let rest = persist_line n (after_persist s l) l (omega arith) in
    (rest.0, persisting-trans s (after_persist s l) rest.0 (persisting_step s l (omega arith)) rest.1, rest.2)

-- the flushes mark no more stores than there are
pub owing-le_count : (bound : ℕ → ℕ) (h : List Act) → ((l : ℕ) → count l h ≤ bound l) → AllByRecursion (λ o. o.stores ≤ bound o.line) (owing h)
owing-le_count bound [] most = tt
owing-le_count bound (Stores k w ∷ h) most = owing-le_count bound h (λ l. le_trans (count-grows l (Stores k w) h) (most l))
owing-le_count bound (Flushes t k ∷ h) most = (most k, owing-le_count bound h most)
owing-le_count bound (a ∷ h) most = owing-le_count bound h most

-- all stores that flushes mark can persist
persist_owed : (t : ℕ) (os : List Outstanding) (s : State) → Leads start s → AllByRecursion (λ o. o.stores ≤ count o.line s.history) os → (e : State) × Persisting s e × AllByRecursion (λ o. o.thread ≡ t → o.stores ≤ e.persisted o.line) os
persist_owed t [] s path within = (s, persisting_none s, tt)
persist_owed t (o ∷ os) s path within =
    let few = (leads-box s path o.line).1 in
    let line = persist_line (count o.line s.history - s.persisted o.line) s o.line (omega arith) in
    let later = leads-trans start s line.0 path line.1.path in
    let rest = persist_owed t os line.0 later (subst (λ h. AllByRecursion (λ p. p.stores ≤ count p.line h) os) (sym line.1.is_history) within.1) in
    let done = line.2 in
    let kept = rest.1.grows o.line in
    let marked = within.0 in
    (rest.0, persisting-trans s line.0 rest.0 line.1 rest.1, (λ same. omega arith, rest.2))

-- persist steps can make any act possible
pub act_possible : (s : State) → Leads start s → (a : Act) → (e : State) × Leads s e × (e.history ≡ a ∷ s.history)
act_possible s path (Clflushes l) =
    let few = (leads-box s path l).1 in
    let line = persist_line (count l s.history - s.persisted l) s l (omega arith) in (
      after line.0 (Clflushes l),
      Acts (Clflushes l) line.1.path (line.2 ∙ ap (count l) (sym line.1.is_history)),
      ap (λ h. Clflushes l ∷ h) line.1.is_history,
    )
act_possible s path (Fences t) =
    let owes = (leads-reached s path).owes in
    let within = subst (AllByRecursion (λ o. o.stores ≤ count o.line s.history)) (sym owes) (owing-le_count (λ l. count l s.history) s.history (λ l. omega arith)) in
    let ready = persist_owed t s.outstanding s path within in (
      after ready.0 (Fences t),
      Acts (Fences t) ready.1.path (subst (AllByRecursion (λ o. o.thread ≡ t → o.stores ≤ ready.0.persisted o.line)) (sym ready.1.is_outstanding) ready.2),
      ap (λ h. Fences t ∷ h) ready.1.is_history,
    )
act_possible s path a = (after s a, Acts a Stays tt, refl)

-- a run goes on with any acts
pub acts_possible : (s : State) → Leads start s → (newer : List Act) → (e : State) × Leads s e × (e.history ≡ newer ++ s.history)
acts_possible s path [] = (s, Stays, refl)
acts_possible s path (a ∷ newer) =
    let before = acts_possible s path newer in
    let next = act_possible before.0 (leads-trans start s before.0 path before.1) a in
    (next.0, leads-trans s before.0 next.0 before.1 next.1, next.2 ∙ ap (λ h. a ∷ h) before.2)

-- a state that a run of the first acts comes to is a moment of a run of the history
pub split-passes : (h : List Act) (s : State) → Leads start s → (newer : List Act) → h ≡ newer ++ s.history → IsMoment h s
split-passes h s path newer is =
    let rest = acts_possible s path newer in
    (rest.0, path, rest.1, rest.2 ∙ sym is)

-- after the first acts of a history a run is at a moment with any counts of their box
pub box-passes : (newer older : List Act) (v : ℕ → ℕ) → InBox older v → (s : State) × IsMoment (newer ++ older) s × (s.history ≡ older) × ((l : ℕ) → s.persisted l ≡ v l)
box-passes newer older v box =
    let run = box-ends older v box in
    (run.0, split-passes (newer ++ older) run.0 run.1.0 newer (ap (λ h. newer ++ h) (sym run.1.1)), run.1.1, run.2)
