-- The tape of a thread at its place, and its entries one event on.
use Rattle.std.proofs.Common.{◌≡◌, ℕ, suc, ◌+◌, ◌<◌, ◌≤◌, Bool, true, false, ◌==◌, List, ◌∷◌, length, drop, get_or, Some, slice_get, refl, sym, ap, ◌∙◌, subst, arith, eq-eqb, eqb-true, ne_eqb, add-one, get_or-set_same, get_or-set_other, zero, replicate}
use Rattle.std.proofs.lemmas.Option.{slice_get_read, slice_get_within, get_or_from_slice_get}
use Rattle.std.proofs.Math.ListN.{set}
use Rattle.std.proofs.Math.Seq.{drop-cons}
use Rattle.std.proofs.lemmas.List.{drop_all}
use Rattle.std.proofs.lemmas.Bool.{eqb-false}
use Rattle.pmt_model.specs.declared.event.Event.{Event}
use Rattle.pmt_model.specs.declared.event.Op.{Op}
use Rattle.pmt_model.specs.Selections.{part_from}
use Rattle.pmt_recorder.specs.Strips.{Strip, entries_of, IsPlaceOf, HasEntry, HasLength}

-- the tape of the thread stands first of the rest
pub place-found : (t p : ℕ) (strips : List Strip) (s : Strip) → p < length strips → s ≡ get_or strips p s → s.thread ≡ t → entries_of t (drop p strips) ≡ entries_of t strips
    → IsPlaceOf t strips p
place-found t p strips s within is thread entries = (
  s,
  slice_get_read strips (length strips) p s refl within is,
  sym first ∙ sym (ap (entries_of t) (drop-cons strips p s within ∙ ap (λ (x : Strip). x ∷ drop (suc p) strips) (sym is))) ∙ entries,
)
  where
    first : entries_of t (s ∷ drop (suc p) strips) ≡ s.entries
    first = rw (eq-eqb s.thread t thread) refl

same_strip : (strips : List Strip) (p : ℕ) (s u : Strip) → slice_get strips p ≡ Some s → slice_get strips p ≡ Some u → s ≡ u
same_strip strips p s u e f = cc

-- the next entry of the tape of the thread
pub next_entry : (t p k number : ℕ) (op : Op) (strips : List Strip) → IsPlaceOf t strips p → HasEntry strips p k number op → slice_get (entries_of t strips) k ≡ Some (number, op)
next_entry t p k number op strips place entry =
    let same : place.0 ≡ entry.0 = same_strip strips p place.0 entry.0 place.1 entry.1 in
    ap (λ (es : List (ℕ × Op)). slice_get es k) (sym place.2) ∙ ap (λ (s : Strip). slice_get s.entries k) same ∙ entry.2

pub all_entries : (t p n : ℕ) (strips : List Strip) → IsPlaceOf t strips p → HasLength strips p n → length (entries_of t strips) ≡ n
all_entries t p n strips place len =
    let same : place.0 ≡ len.0 = same_strip strips p place.0 len.0 place.1 len.1 in
    ap length (sym place.2) ∙ ap (λ (s : Strip). length s.entries) same ∙ len.2

-- the event is the next entry
pub part-own : (n t k : ℕ) (e : Event) (es : List Event) (entries : List (ℕ × Op)) → e.thread ≡ t → slice_get entries k ≡ Some (n, e.op)
    → part_from (suc n) t es ≡ drop (suc k) entries → part_from n t (e ∷ es) ≡ drop k entries
part-own n t k e es entries own at rest =
    let within : k < length entries = slice_get_within entries k (n, e.op) at in
    let found : get_or entries k (n, e.op) ≡ (n, e.op) = get_or_from_slice_get entries k (n, e.op) (n, e.op) at in
    let cut : drop k entries ≡ (n, e.op) ∷ drop (suc k) entries = drop-cons entries k (n, e.op) within ∙ ap (λ (x : ℕ × Op). x ∷ drop (suc k) entries) found in
    let step : part_from n t (e ∷ es) ≡ (n, e.op) ∷ part_from (suc n) t es = rw (eq-eqb e.thread t own) refl in
    step ∙ ap (λ (l : List (ℕ × Op)). (n, e.op) ∷ l) rest ∙ sym cut

-- the event is another thread's
pub part-other : (n t k : ℕ) (e : Event) (es : List Event) (entries : List (ℕ × Op)) → (e.thread ≡ t → ⊥)
    → part_from (suc n) t es ≡ drop k entries → part_from n t (e ∷ es) ≡ drop k entries
part-other n t k e es entries other rest =
    let step : part_from n t (e ∷ es) ≡ part_from (suc n) t es = rw (ne_eqb e.thread t other) refl in
    step ∙ rest

-- no event and no entry is left
pub part-ended : (n t k : ℕ) (events : List Event) (i : ℕ) (entries : List (ℕ × Op)) → length events ≤ i → length entries ≡ k → part_from n t (drop i events) ≡ drop k entries
part-ended n t k events i entries ended all =
    ap (part_from n t) (drop_all i events ended) ∙ sym (drop_all k entries (omega (arith, all)))

pub get_or-zeros : (n t : ℕ) → ◌≡◌ {A = ℕ} (get_or {A = ℕ} (replicate {A = ℕ} n 0) t 0) 0
get_or-zeros zero t = refl
get_or-zeros (suc n) zero = refl
get_or-zeros (suc n) (suc t) = get_or-zeros n t

module _ (t u i : ℕ) (next : List ℕ) (inside : u < length next) where
  -- one more entry of tape u is taken
  abbrev pub taken : List ℕ
  taken = set next u (get_or next u 0 + 1)

  taken-own : t ≡ u → get_or taken t 0 ≡ get_or next t 0 + 1
  taken-own e = subst (λ (k : ℕ). get_or (set next u (get_or next u 0 + 1)) k 0 ≡ get_or next k 0 + 1) (sym e) (get_or-set_same next u (get_or next u 0 + 1) 0 inside)

  taken-other : (t ≡ u → ⊥) → get_or taken t 0 ≡ get_or next t 0
  taken-other ne = get_or-set_other next u t (get_or next u 0 + 1) 0 ne

  pub few-taken : get_or next t 0 ≤ i → get_or taken t 0 ≤ i + 1
  few-taken few = go (t == u) refl where
    go : (b : Bool) → (t == u) ≡ b → get_or taken t 0 ≤ i + 1
    go true e = let own = taken-own (eqb-true t u e) in omega (arith, own, few)
    go false e = let other = taken-other (eqb-false t u e) in omega (arith, other, few)

  -- what is left to compare, one event back
  pub rest-taken : (events : List Event) (event : Event) (entries : List (ℕ × Op)) (number : ℕ) → i < length events → event ≡ get_or events i event → event.thread ≡ u
      → number ≡ suc i → (t ≡ u → slice_get entries (get_or next u 0) ≡ Some (number, event.op))
      → part_from (suc (i + 1)) t (drop (i + 1) events) ≡ drop (get_or taken t 0) entries → part_from (suc i) t (drop i events) ≡ drop (get_or next t 0) entries
  rest-taken events event entries number within is thread count entry later =
      ap (part_from (suc i) t) (drop-cons events i event within ∙ ap (λ (x : Event). x ∷ drop (suc i) events) (sym is)) ∙ go (t == u) refl
    where
      after : (k : ℕ) → get_or taken t 0 ≡ k → part_from (suc (suc i)) t (drop (suc i) events) ≡ drop k entries
      after k e = subst (λ (j : ℕ). part_from (suc j) t (drop j events) ≡ drop k entries) (add-one i) (later ∙ ap (λ (j : ℕ). drop j entries) e)

      go : (b : Bool) → (t == u) ≡ b → part_from (suc i) t (event ∷ drop (suc i) events) ≡ drop (get_or next t 0) entries
      go true e =
          let own : t ≡ u = eqb-true t u e in
          let at : slice_get entries (get_or next t 0) ≡ Some (suc i, event.op) =
          ap (λ (k : ℕ). slice_get entries (get_or next k 0)) own ∙ entry own ∙ ap (λ (n : ℕ). Some (n, event.op)) count in
          part-own (suc i) t (get_or next t 0) event (drop (suc i) events) entries (thread ∙ sym own) at (after (suc (get_or next t 0)) (taken-own own ∙ add-one (get_or next t 0)))
      go false e =
          let other : t ≡ u → ⊥ = eqb-false t u e in
          part-other (suc i) t (get_or next t 0) event (drop (suc i) events) entries (λ (h : event.thread ≡ t). other (sym h ∙ thread)) (after (get_or next t 0) (taken-other other))
