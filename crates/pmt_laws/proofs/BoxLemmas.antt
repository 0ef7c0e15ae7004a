-- The counts of persisted stores that the runs of a history end with are those between the fronts and the counts of stores.
use Rattle.std.proofs.Common.{◌≡◌, ℕ, suc, ◌<◌, ◌≤◌, min, inl, inr, List, [], ◌∷◌, ◌==◌, refl, sym, ap, subst, subst₂, ◌↔◌, ◌∙◌, eq-eqb, eqb-true, ne_eqb, le_trans, arith}
use Rattle.std.proofs.lemmas.Bool.{cond_both, cond-true, cond-false, cases_lt, cases_eq}
use Rattle.std.proofs.lemmas.Bool.Decides.{nat_tests}
use Rattle.pmt_laws.specs.Prelude.{Written, mark, front, InBox}
use Rattle.pmt_model.specs.Machine.{Act, Stores, Flushes, Clflushes, Fences, State, Allows, Leads, Stays, Acts, Persists, Ends, Vectors, count, start, after, after_persist, outstanding_after}
use Rattle.pmt_laws.specs.ModelLaws.{VectorsAreABox}
use Rattle.pmt_laws.proofs.Histories.{mark-le-count, count-grows, front-grows}
use Rattle.pmt_laws.proofs.OutstandingFlushes.{owing, OwesAtMost, mark-le_owed, owed_from_marks}

-- what holds of each state that a run comes to
pub record IsReached (s : State) : Type 0 where
  pub owes : s.outstanding ≡ owing s.history
  pub box : InBox s.history s.persisted

-- outstanding flushes are added as the history says
pub owes-after : (s : State) (a : Act) → s.outstanding ≡ owing s.history → outstanding_after s a ≡ owing (a ∷ s.history)
owes-after s (Flushes t l) owes = ap (λ os. record { thread = t; line = l; stores = count l s.history } ∷ os) owes
owes-after s a owes = owes

-- an act that may come raises no front above what is persisted
pub front-after : (s : State) (a : Act) → IsReached s → Allows s a → (l : ℕ) → front l (a ∷ s.history) ≤ s.persisted l
front-after s (Clflushes k) reached allowed l =
    cond_both (k == l) (count l s.history) (front l s.history) (λ x. x ≤ s.persisted l)
    (λ same. subst (λ j. count j s.history ≤ s.persisted j) (eqb-true k l same) (omega arith))
    (λ other. (reached.box l).0)
front-after s (Fences t) reached allowed l =
    let waited = mark-le_owed t l s.persisted s.history (subst (OwesAtMost t s.persisted) reached.owes allowed) in
    let old = (reached.box l).0 in
    omega arith
front-after s a reached allowed l = (reached.box l).0

-- a state that is reached stays so under an act
pub reached-after : (s : State) (a : Act) → IsReached s → Allows s a → IsReached (after s a)
reached-after s a reached allowed = record {
  owes = owes-after s a reached.owes;
  box = λ l. (front-after s a reached allowed l, le_trans (reached.box l).1 (count-grows l a s.history));
}

-- and under a persist step
pub reached-after_persist : (s : State) (l : ℕ) → IsReached s → s.persisted l < count l s.history → IsReached (after_persist s l)
reached-after_persist s l reached room = grind (arith, nat_tests, cond_both)

-- what holds of each state that a run comes to
pub leads-reached : (s : State) → Leads start s → IsReached s
leads-reached s Stays = record { owes = refl; box = λ l. (omega arith, omega arith) }
leads-reached s (Acts {to} a path allowed) = reached-after to a (leads-reached to path) allowed
leads-reached s (Persists {to} l path room) = reached-after_persist to l (leads-reached to path) room

-- at each moment of a run the counts of persisted stores lie in the box
pub leads-box : (s : State) → Leads start s → InBox s.history s.persisted
leads-box s path = (leads-reached s path).box

-- and so at the ends of the runs of a history
pub ends-box : (h : List Act) (s : State) → Ends h s → InBox h s.persisted
ends-box h s ends = subst (λ history. InBox history s.persisted) ends.1 (leads-box s ends.0)

-- a store counts for its line
pub count-store : (l k : ℕ) (w : Written) (h : List Act) → l ≡ k → count l (Stores k w ∷ h) ≡ suc (count l h)
count-store l k w h same = cond-true (k == l) (suc (count l h)) (count l h) (eq-eqb k l (sym same))

-- and for no other
pub count-store_other : (l k : ℕ) (w : Written) (h : List Act) → (l ≡ k → ⊥) → count l (Stores k w ∷ h) ≡ count l h
count-store_other l k w h other = cond-false (k == l) (suc (count l h)) (count l h) (ne_eqb k l (λ e. other (sym e)))

-- a clflush raises the front of its line to the count
pub front-flush_now : (l : ℕ) (h : List Act) → front l (Clflushes l ∷ h) ≡ count l h
front-flush_now l h = cond-true (l == l) (count l h) (front l h) (eq-eqb l l refl)

-- a persist step counts for its line
pub persisted-step : (s : State) (l k : ℕ) → l ≡ k → (after_persist s k).persisted l ≡ suc (s.persisted l)
persisted-step s l k same = cond-true (l == k) (suc (s.persisted l)) (s.persisted l) (eq-eqb l k same)

-- and for no other
pub persisted-step_other : (s : State) (l k : ℕ) → (l ≡ k → ⊥) → (after_persist s k).persisted l ≡ s.persisted l
persisted-step_other s l k other = cond-false (l == k) (suc (s.persisted l)) (s.persisted l) (ne_eqb l k other)

-- the state ends a run of the history that persists each store at once, up to so many a line
pub record IsAsPlanned (v : ℕ → ℕ) (h : List Act) (s : State) : Type 0 where
  pub path : Leads start s
  pub is_history : s.history ≡ h
  pub persisted : (l : ℕ) → s.persisted l ≡ min (v l) (count l h)

-- a store past the plan stays pending
planned-pending : (v : ℕ → ℕ) (k : ℕ) (w : Written) (h : List Act) (s : State) → v k ≤ count k h → IsAsPlanned v h s → IsAsPlanned v (Stores k w ∷ h) (after s (Stores k w))
planned-pending v k w h s enough plan = record {
  path = Acts (Stores k w) plan.path tt;
  is_history = ap (λ history. Stores k w ∷ history) plan.is_history;
  persisted = λ l. elim (cases_eq l k) [
    | inl same ↦
        let new = count-store l k w h same in
        let reach = subst (λ j. v j ≤ count j h) (sym same) enough in
        let old = plan.persisted l in
        omega arith
    | inr other ↦ let new = count-store_other l k w h other in let old = plan.persisted l in omega arith
  ];
}

-- a store within the plan persists at once
planned-persist : (v : ℕ → ℕ) (k : ℕ) (w : Written) (h : List Act) (s : State) → count k h < v k → IsAsPlanned v h s → IsAsPlanned v (Stores k w ∷ h) (after_persist (after s (Stores k w)) k)
planned-persist v k w h s more plan = record {
  path = Persists k (Acts (Stores k w) plan.path tt)
      (let old = plan.persisted k in
      let new = count-store k k w s.history refl in
      let stores : count k s.history ≡ count k h = ap (count k) plan.is_history in
      subst (λ c. s.persisted k < c) (sym new) (omega arith));
  is_history = ap (λ history. Stores k w ∷ history) plan.is_history;
  persisted = λ l. elim (cases_eq l k) [
    | inl same ↦
        let step = persisted-step (after s (Stores k w)) l k same in
        let new = count-store l k w h same in
        let reach = subst (λ j. count j h < v j) (sym same) more in
        let old = plan.persisted l in
        omega arith
    | inr other ↦
        let step = persisted-step_other (after s (Stores k w)) l k other in
        let new = count-store_other l k w h other in
        let old = plan.persisted l in
        omega arith
  ];
}

-- one more act goes as planned
planned-next : (v : ℕ → ℕ) (a : Act) (h : List Act) → ((l : ℕ) → front l (a ∷ h) ≤ v l) → (s : State) → IsAsPlanned v h s → (t : State) × IsAsPlanned v (a ∷ h) t
planned-next v (Stores k w) h fronts s plan =
    elim (cases_lt (count k h) (v k)) [
      | inl more ↦ (after_persist (after s (Stores k w)) k, planned-persist v k w h s more plan)
      | inr enough ↦ (after s (Stores k w), planned-pending v k w h s enough plan)
    ]
planned-next v (Clflushes k) h fronts s plan =
    let reach = fronts k in
    let front = front-flush_now k h in
    let done = plan.persisted k in
    let all : s.persisted k ≡ count k h = omega arith in (
      after s (Clflushes k),
      record {
        path = Acts (Clflushes k) plan.path (all ∙ ap (count k) (sym plan.is_history));
        is_history = ap (λ history. Clflushes k ∷ history) plan.is_history;
        persisted = plan.persisted;
      },
    )
planned-next v (Fences t) h fronts s plan =
    let owes = (leads-reached s plan.path).owes ∙ ap owing plan.is_history in (
      after s (Fences t),
      record {
        path = Acts (Fences t) plan.path (subst (OwesAtMost t s.persisted) (sym owes) (owed_from_marks t s.persisted h reached));
        is_history = ap (λ history. Fences t ∷ history) plan.is_history;
        persisted = plan.persisted;
      },
    )
  where
    reached : (l : ℕ) → mark t l h ≤ s.persisted l
    reached l = let reach = fronts l in let done = plan.persisted l in let few = mark-le-count t l h in omega arith
planned-next v a h fronts s plan = (
  after s a,
  record {
    path = Acts a plan.path tt;
    is_history = ap (λ history. a ∷ history) plan.is_history;
    persisted = plan.persisted;
  },
)

-- every history with fronts within the plan has a run as planned
pub planned : (v : ℕ → ℕ) (h : List Act) → ((l : ℕ) → front l h ≤ v l) → (s : State) × IsAsPlanned v h s
planned v [] fronts = (start, record { path = Stays; is_history = refl; persisted = λ l. omega arith })
planned v (a ∷ h) fronts =
    let before = planned v h (λ l. le_trans (front-grows l a h) (fronts l)) in
    planned-next v a h fronts before.0 before.1

-- a run of the history ends with any counts of the box
pub box-ends : (h : List Act) (v : ℕ → ℕ) → InBox h v → (s : State) × Ends h s × ((l : ℕ) → s.persisted l ≡ v l)
box-ends h v box =
    let run = planned v h (λ l. (box l).0) in
    (run.0, (run.1.path, run.1.is_history), λ l. let done = run.1.persisted l in let few = (box l).1 in omega arith)

-- runs end with just the counts of the box
pub vectors_are_a_box : VectorsAreABox
vectors_are_a_box h v = (
  λ x l. subst (λ n. (front l h ≤ n) × (n ≤ count l h)) (x.2 l) (ends-box h x.0 x.1 l),
  λ box. box-ends h v box,
)

-- where fronts and counts are the same, runs end with the same counts
pub same_fronts-vectors : (h k : List Act) → ((l : ℕ) → front l h ≡ front l k) → ((l : ℕ) → count l h ≡ count l k) → (v : ℕ → ℕ) → Vectors h v ↔ Vectors k v
same_fronts-vectors h k fronts counts v = (over h k fronts counts, over k h (λ l. sym (fronts l)) (λ l. sym (counts l)))
  where
    over : (a b : List Act) → ((l : ℕ) → front l a ≡ front l b) → ((l : ℕ) → count l a ≡ count l b) → Vectors a v → Vectors b v
    over a b lower upper x =
        (vectors_are_a_box b v).1 (λ l. subst₂ (λ m n. (m ≤ v l) × (v l ≤ n)) (lower l) (upper l) ((vectors_are_a_box a v).0 x l))
