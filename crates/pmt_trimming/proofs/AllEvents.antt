-- The selection of all events: it has each number, and the matching place of each place is that place.
use Rattle.std.proofs.Common.{◌≡◌, ℕ, zero, suc, ◌<◌, ◌≤◌, Bool, true, false, List, [], ◌∷◌, length, get_or, Result, Ok, Err, refl, sym, ap, subst, ◌∙◌, arith}
use Rattle.std.specs.Prelude.{◌↔◌, IfOk}
use Rattle.std.proofs.lemmas.Bool.{false≢true}
use Rattle.pmt_laws.specs.Prelude.{Event, Recording, VectorsAt, IsRising, Has, IsSelection, cut, matching_place, HasSameVectors}
use Rattle.pmt_laws.proofs.Histories.{act-within}
use Rattle.pmt_laws.proofs.CutLemmas.{place-low, place-kept}
use Rattle.pmt_laws.proofs.WholeSelections.{cut-whole}
use Rattle.pmt_tables.specs.Flags.{is_kept_at}
use Rattle.pmt_trimming.specs.Passing.{all_marks}

-- the marks are those of the events' numbers
marked-at : (events : List Event) (i : ℕ) → i < length events → get_or (all_marks events) i false ≡ true
marked-at [] i h = absurd (omega arith)
marked-at (e ∷ events) zero h = refl
marked-at (e ∷ events) (suc i) h = marked-at events i (omega arith)

at-marked : (events : List Event) (i : ℕ) → get_or (all_marks events) i false ≡ true → i < length events
at-marked [] i is = absurd (false≢true is)
at-marked (e ∷ events) zero is = omega arith
at-marked (e ∷ events) (suc i) is = omega (arith, at-marked events i is)

-- Rising numbers, those of all events.
pub record IsAll (T : Recording) (K : List ℕ) : Type 0 where
  pub rising : IsRising 0 K
  pub within : (i : ℕ) → Has K i → i ≤ length T.events
  pub whole : (i : ℕ) → 0 < i → i ≤ length T.events → Has K i

-- the marked numbers are those of all events
pub all-numbers : (T : Recording) (K : List ℕ) → IsRising 0 K → ((n : ℕ) → Has K n ↔ (is_kept_at (all_marks T.events) n ≡ true)) → IsAll T K
all-numbers T K rising just = record { rising = rising; within = within; whole = whole }
  where
    within : (i : ℕ) → Has K i → i ≤ length T.events
    within zero has = omega arith
    within (suc i) has = omega (arith, at-marked T.events i ((just (suc i)).0 has))

    whole : (i : ℕ) → 0 < i → i ≤ length T.events → Has K i
    whole zero above by = absurd (omega arith)
    whole (suc i) above by = (just (suc i)).1 (marked-at T.events i by)

-- they cut nothing
pub all-cut : (T : Recording) (K : List ℕ) → IsAll T K → cut T K ≡ T
all-cut T K all = cut-whole T K all.rising all.within all.whole

-- they are a selection
pub all-selection : (T : Recording) (K : List ℕ) → IsAll T K → IsSelection T K
all-selection T K all = record {
  rising = all.rising;
  within = all.within;
  whole = λ i a is stays. let range = act-within T i a is in all.whole i (omega (arith, range.0)) range.1;
}

-- each place matches itself
all-place : (T : Recording) (K : List ℕ) (n : ℕ) → IsAll T K → n ≤ length T.events → matching_place K n ≡ n
all-place T K zero all h = place-low 0 K 0 all.rising (omega arith)
all-place T K (suc n) all h = place-kept K n all.rising (all.whole (suc n) (omega arith) h) ∙ ap suc (all-place T K n all (omega arith))

-- the counts of persisted stores are those of the trace
pub all-same : (T : Recording) (K : List ℕ) → IsAll T K → HasSameVectors T K
all-same T K all n within v =
    let P : Recording → Type 0 = λ R. VectorsAt T n v ↔ VectorsAt R (matching_place K n) v in
    let Q : ℕ → Type 0 = λ m. VectorsAt T n v ↔ VectorsAt T m v in
    subst P (sym (all-cut T K all)) (subst Q (sym (all-place T K n all within)) (λ x. x, λ x. x))

-- what the marked numbers are
pub all-answer : {E : Type 0} (T : Recording) (marks : List Bool) (o : Result (List ℕ) E) → marks ≡ all_marks T.events → IfOk o (IsRising 0) →
    IfOk o (λ K. (n : ℕ) → Has K n ↔ (is_kept_at marks n ≡ true)) → IfOk o (IsAll T)
all-answer T marks (Err e) same rising just = tt
all-answer T marks (Ok K) same rising just =
    let P : List Bool → Type 0 = λ (ms : List Bool). (n : ℕ) → Has K n ↔ (is_kept_at ms n ≡ true) in
    all-numbers T K rising (subst P same just)

-- and what holds of them
pub all-gives : {E : Type 0} (T : Recording) (P : List ℕ → Type 0) (o : Result (List ℕ) E) → ((K : List ℕ) → IsAll T K → P K) → IfOk o (IsAll T) → IfOk o P
all-gives T P (Err e) f all = tt
all-gives T P (Ok K) f all = f K all
