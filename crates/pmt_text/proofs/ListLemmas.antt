-- The event of a trace that comes next.
use Rattle.std.proofs.Common.{◌≡◌, ℕ, zero, suc, ◌+◌, ◌-◌, ◌<◌, List, [], ◌∷◌, length, drop, Option, Some, refl, sym, ◌∙◌, subst, ap, add-one, arith, Ok}
use Rattle.std.specs.List.{slice_get, AllByRecursion}
use Rattle.pmt_text.specs.Prelude.{Event, Recording, event, IsTrace, IsEventIn}
use Rattle.pmt_text.specs.Sources.{rest_of_trace, TakesNext, IsGivenIn, LeavesFewer}

-- the element at n is the first of those from n on
pub found_at : (es : List Event) (n : ℕ) → n < length es → (e : Event) × (slice_get es n ≡ Some e) × (drop n es ≡ e ∷ drop (suc n) es)
found_at [] n h = absurd (omega arith)
found_at (e ∷ es) zero h = (e, refl, refl)
found_at (e ∷ es) (suc n) h = found_at es n (omega arith)

-- what holds of all holds of the element at n
pub each_at : (P : Event → Type 0) (es : List Event) (n : ℕ) (e : Event) → AllByRecursion P es → slice_get es n ≡ Some e → P e
each_at P [] n e all found = absurd (cc)
each_at P (x ∷ xs) zero e all found = let same : x ≡ e = cc in subst P same all.0
each_at P (x ∷ xs) (suc n) e all found = each_at P xs n e all.1 found

module _ (T : Recording) (n : ℕ) (r : Option Event) (before : n < length T.events) (is : r ≡ event T (n + 1)) where
  next_event : (e : Event) × (r ≡ Some e) × (drop n T.events ≡ e ∷ drop (n + 1) T.events) × (slice_get T.events n ≡ Some e)
  next_event =
      let f = found_at T.events n before in
      (f.0, is ∙ ap (event T) (add-one n) ∙ f.1, f.2 ∙ ap (λ m. f.0 ∷ drop m T.events) (sym (add-one n)), f.1)

  pub takes_next : TakesNext (Some (rest_of_trace T n)) (Ok r) (Some (rest_of_trace T (n + 1)))
  takes_next = let f = next_event in rw f.1 (drop (n + 1) T.events, f.2, refl)

  pub given_in : IsTrace T → IsGivenIn (Some T.format) (Ok r)
  given_in trace = let f = next_event in rw f.1 (each_at (IsEventIn T.format) T.events n f.0 trace.each f.3)

  pub leaves_fewer : LeavesFewer (length T.events - n) (Ok r) (length T.events - (n + 1))
  leaves_fewer = let f = next_event in rw f.1 (omega arith)
