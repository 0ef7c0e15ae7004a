-- A selection of all events cuts nothing.
use Rattle.std.proofs.Common.{◌≡◌, ℕ, suc, ◌<◌, ◌≤◌, ◌⊎◌, inl, inr, List, [], ◌∷◌, length, Some, drop, drop-cons, drop_of_length-le, refl, sym, ap, subst, ◌∙◌, arith}
use Rattle.std.specs.Prelude.{slice_get}
use Rattle.std.proofs.lemmas.Option.{slice_get_within, get_or_from_slice_get}
use Rattle.pmt_laws.specs.Prelude.{Event, Recording, event, IsRising, Has, cut, filter_map, cons_option}
use Rattle.pmt_laws.specs.ModelLaws.{TrimmedStays}
use Rattle.pmt_laws.proofs.Histories.{event-some}
use Rattle.pmt_laws.proofs.CutLemmas.{has-above}
use Rattle.pmt_laws.proofs.ShortestPairs.{not_later}
use Rattle.pmt_laws.proofs.KeepLemmas.{keep_is_selection}
use Rattle.pmt_laws.proofs.TrimmedTwice.{trimmed_twice}

-- what is left of a list from one of its elements on
drop-from : (xs : List Event) (n : ℕ) (e : Event) → slice_get xs n ≡ Some e → drop n xs ≡ e ∷ drop (suc n) xs
drop-from xs n e is = drop-cons xs n e (slice_get_within xs n e is) ∙ ap (λ x. x ∷ drop (suc n) xs) (get_or_from_slice_get xs n e e is)

-- where all numbers from low on are among rising numbers above low, the first is the one after low
first-next : (low n k : ℕ) (ks : List ℕ) → IsRising low (k ∷ ks) → k ≤ n → ((i : ℕ) → low < i → i ≤ n → Has (k ∷ ks) i) → k ≡ suc low
first-next low n k ks rising within whole = go (whole (suc low) (omega arith) (omega (arith, rising.0)))
  where
    go : (k ≡ suc low) ⊎ Has ks (suc low) → k ≡ suc low
    go (inl same) = same
    go (inr later) = absurd (omega (arith, rising.0, has-above k ks (suc low) rising.1 later))

-- a later number is not the first
in-rest : (k i : ℕ) (ks : List ℕ) → k < i → Has (k ∷ ks) i → Has ks i
in-rest k i ks less (inl same) = absurd (omega arith)
in-rest k i ks less (inr later) = later

-- all numbers from low on select all events from there on
select-rest : (T : Recording) (low : ℕ) (J : List ℕ) → IsRising low J → ((i : ℕ) → Has J i → i ≤ length T.events) →
    ((i : ℕ) → low < i → i ≤ length T.events → Has J i) → filter_map (event T) J ≡ drop low T.events
select-rest T low [] rising within whole =
    sym (drop_of_length-le T.events (not_later low (length T.events) (λ more. absurd (whole (suc low) (omega arith) more))))
select-rest T low (k ∷ ks) rising within whole =
    let next : k ≡ suc low = first-next low (length T.events) k ks rising (within k (inl refl)) whole in
    let some = event-some T low (omega (arith, within k (inl refl))) in
    let here : event T k ≡ Some some.0 = ap (event T) next ∙ some.1 in
    let rest : filter_map (event T) ks ≡ drop (suc low) T.events =
    select-rest T (suc low) ks (subst (λ m. IsRising m ks) next rising.1) (λ i has. within i (inr has))
    (λ i above by. in-rest k i ks (omega arith) (whole i (omega arith) by)) in
    ap (λ o. cons_option o (filter_map (event T) ks)) here ∙ ap (λ events. some.0 ∷ events) rest ∙ sym (drop-from T.events low some.0 some.1)

-- a selection of all events cuts nothing
pub cut-whole : (T : Recording) (J : List ℕ) → IsRising 0 J → ((i : ℕ) → Has J i → i ≤ length T.events) →
    ((i : ℕ) → 0 < i → i ≤ length T.events → Has J i) → cut T J ≡ T
cut-whole T J rising within whole =
    let remake : List Event → Recording = λ events. record { format = T.format; events = events } in
    ap remake (select-rest T 0 J rising within whole)

-- trimming a trimmed trace gives the same trace
pub trimmed_same : TrimmedStays
trimmed_same T K J keep again =
    cut-whole (cut T K) J again.rising (keep_is_selection (cut T K) J again).within (λ i above within. (again.just i).1 (trimmed_twice T K i keep above within))
