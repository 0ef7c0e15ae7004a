-- From the flags of a pass to what is kept.
use Rattle.std.proofs.Common.{◌≡◌, ℕ, zero, suc, ◌+◌, ◌<◌, ◌≤◌, Bool, true, false, List, [], ◌∷◌, ◌++◌, length, get_or, take, Some, inl, inr, refl, sym, ap, ◌∙◌, arith, append_assoc}
use Rattle.std.specs.Prelude.{◌↔◌, slice_get}
use Rattle.std.proofs.lemmas.Bool.{false≢true}
use Rattle.std.proofs.lemmas.List.{take_more, take_all}
use Rattle.std.proofs.lemmas.Option.{same_Some}
use Rattle.pmt_laws.specs.Prelude.{Event, Recording, with_event, with_events, IsRising, Has, IsSelection, IsKept, IsKeep, AllByRecursion}
use Rattle.pmt_tables.specs.Flags.{is_kept_at}
use Rattle.pmt_trimming.specs.Passing.{AreFlags}
use Rattle.pmt_trimming.proofs.SettlingLemmas.{kept-some}

-- The trace of the first n events.
abbrev pub first_events : Recording → ℕ → Recording
first_events T n = record { format = T.format; events = take n T.events }

-- one event more
pub first-more : (T : Recording) (n : ℕ) (e : Event) → n < length T.events → e ≡ get_or T.events n e → with_event (first_events T n) e ≡ first_events T (n + 1)
first-more T n e within at =
    ap (λ (es : List Event). let R : Recording = record { format = T.format; events = es } in R) (ap (λ x. take n T.events ++ x ∷ []) at ∙ sym (take_more T.events n e within))

-- also behind another trace
pub events-next : (T : Recording) (es : List Event) (n : ℕ) (e : Event) → n < length es → e ≡ get_or es n e → with_event (with_events T (take n es)) e ≡ with_events T (take (n + 1) es)
events-next T es n e within at =
    ap (λ (more : List Event). let R : Recording = record { format = T.format; events = more } in R)
    (append_assoc T.events (take n es) (e ∷ []) ∙ ap (λ (more : List Event). T.events ++ more) (ap (λ x. take n es ++ x ∷ []) at ∙ sym (take_more es n e within)))

-- and all of them
pub first-all : (T : Recording) (n : ℕ) → length T.events ≤ n → first_events T n ≡ T
first-all T n past = ap (λ (es : List Event). let R : Recording = record { format = T.format; events = es } in R) (take_all n T.events past)

-- the numbers of a selection are within the trace
pub selection-within : (T : Recording) (K : List ℕ) → IsSelection T K → AllByRecursion (λ k. k ≤ length T.events) K
selection-within T K s = go K (λ k h. s.within k h)
  where
    go : (ks : List ℕ) → ((k : ℕ) → Has ks k → k ≤ length T.events) → AllByRecursion (λ k. k ≤ length T.events) ks
    go [] f = tt
    go (k ∷ ks) f = (f k (inl refl), go ks (λ j h. f j (inr h)))

flag-at : (flags : List Bool) (i : ℕ) → (get_or flags i false ≡ true) ↔ (slice_get flags i ≡ Some true)
flag-at [] i = ((λ e. absurd (false≢true e)), (λ e. absurd (cc)))
flag-at (b ∷ flags) zero = ((λ e. ap Some e), (λ e. same_Some b true e))
flag-at (b ∷ flags) (suc i) = flag-at flags i

-- the numbers that are flagged are those that are kept
pub keep-flagged : (T : Recording) (flags : List Bool) (K : List ℕ) → AreFlags T 0 flags → IsRising 0 K → ((n : ℕ) → Has K n ↔ (is_kept_at flags n ≡ true)) → IsKeep T K
keep-flagged T flags K are rising marked = record { rising = rising; just = λ n. go n (marked n) }
  where
    go : (n : ℕ) → Has K n ↔ (is_kept_at flags n ≡ true) → Has K n ↔ IsKept T n
    go zero m = ((λ h. absurd (false≢true (m.0 h))), (λ kept. absurd (omega (arith, kept-some T 0 kept))))
    go (suc i) m =
        let at = flag-at flags i in
        let told : (slice_get flags i ≡ Some true) ↔ IsKept T (suc (0 + i)) = are.1 i in
        let e : 0 + i ≡ i = omega arith in
        let here : (slice_get flags i ≡ Some true) ↔ IsKept T (suc i) = rw e at told in
        ((λ h. here.0 (at.0 (m.0 h))), (λ kept. m.1 (at.1 (here.1 kept))))
