-- The events of a selection.
use Rattle.std.proofs.Common.{◌≡◌, ℕ, zero, suc, ◌+◌, ◌-◌, ◌<◌, ◌≤◌, List, [], ◌∷◌, ◌++◌, length, refl, ap, ◌∙◌, subst, arith, get_or, take, Option, Some, None, add-one}
use Rattle.std.specs.Prelude.{slice_get}
use Rattle.std.specs.List.{AllByRecursion, filter_map, cons_option}
use Rattle.std.proofs.Math.Seq.{take-suc}
use Rattle.std.proofs.lemmas.List.Elements.{filter_map-append}
use Rattle.std.proofs.lemmas.Option.{slice_get-get_or}
use Rattle.pmt_model.specs.declared.event.Event.{Event}
use Rattle.pmt_model.specs.Traces.{Recording, event, IsTrace, IsEventIn}
use Rattle.pmt_model.specs.Selections.{IsRising, cut}

-- What holds of each element holds of the element at an index.
pub all-at : (P : ℕ → Type 0) (xs : List ℕ) (i : ℕ) → AllByRecursion P xs → i < length xs → P (get_or xs i 0)
all-at P [] i all h = absurd (omega arith)
all-at P (x ∷ xs) zero all h = all.0
all-at P (x ∷ xs) (suc i) all h = all-at P xs i all.1 (omega arith)

-- Each of rising numbers is above low.
pub rising-above : (low : ℕ) (ks : List ℕ) (i : ℕ) → IsRising low ks → i < length ks → low < get_or ks i 0
rising-above low [] i r h = absurd (omega arith)
rising-above low (k ∷ ks) zero r h = r.0
rising-above low (k ∷ ks) (suc i) r h = omega (arith, rising-above k ks i r.1 (omega arith), r.0)

-- Rising numbers between two bounds are no more than the bounds leave room for.
pub rising-few : (low high : ℕ) (ks : List ℕ) → IsRising low ks → AllByRecursion (λ k. k ≤ high) ks → length ks ≤ high - low
rising-few low high [] r all = omega arith
rising-few low high (k ∷ ks) r all = omega (arith, rising-few k high ks r.1 all.1, r.0, all.0)

-- The event of a number within the trace.
pub event-within : (T : Recording) (n : ℕ) (x : Event) → 1 ≤ n → n ≤ length T.events → get_or T.events (n - 1) x ≡ x → event T n ≡ Some x
event-within T zero x some within is = absurd (omega arith)
event-within T (suc n) x some within is =
    let at : n < length T.events = omega arith in
    let e : suc n - 1 ≡ n = omega arith in
    slice_get-get_or T.events n x at ∙ ap (λ y. Some y) (subst (λ i. get_or T.events i x ≡ x) e is)

-- One more number gives one more event.
pub select-more : (T : Recording) (K : List ℕ) (i n : ℕ) (x : Event) → i < length K → get_or K i 0 ≡ n → event T n ≡ Some x → filter_map (event T) (take (i + 1) K) ≡ filter_map (event T) (take i K) ++ (x ∷ [])
select-more T K i n x h is e = rw (add-one, take-suc K i 0 h, filter_map-append (event T) (take i K) (get_or K i 0 ∷ []), is, e) refl

-- The events of a selection are events of the trace.
pub AllByRecursion-filter_map : (P : Event → Type 0) (T : Recording) (K : List ℕ) → AllByRecursion P T.events → AllByRecursion P (filter_map (event T) K)
AllByRecursion-filter_map P T [] all = tt
AllByRecursion-filter_map P T (k ∷ ks) all = with_option (event T k) (at_number k) (AllByRecursion-filter_map P T ks all) where
  with_option : (o : Option Event) → ((e : Event) → o ≡ Some e → P e) → AllByRecursion P (filter_map (event T) ks) → AllByRecursion P (cons_option o (filter_map (event T) ks))
  with_option None holds rest = rest
  with_option (Some e) holds rest = (holds e refl, rest)

  in_list : (es : List Event) (i : ℕ) (e : Event) → AllByRecursion P es → slice_get es i ≡ Some e → P e
  in_list [] i e every is = cc
  in_list (x ∷ xs) zero e every is = let same : x ≡ e = cc in subst P same every.0
  in_list (x ∷ xs) (suc i) e every is = in_list xs i e every.1 is

  at_number : (n : ℕ) (e : Event) → event T n ≡ Some e → P e
  at_number zero e is = cc
  at_number (suc n) e is = in_list T.events n e all is

one_more : (T : Recording) (ks : List ℕ) (o : Option Event) → length (filter_map (event T) ks) ≤ length ks → length (cons_option o (filter_map (event T) ks)) ≤ suc (length ks)
one_more T ks None few = omega arith
one_more T ks (Some e) few = omega arith

-- A selection has no more events than numbers.
pub length-filter_map : (T : Recording) (K : List ℕ) → length (filter_map (event T) K) ≤ length K
length-filter_map T [] = omega arith
length-filter_map T (k ∷ ks) = one_more T ks (event T k) (length-filter_map T ks)

-- A trace cut to a selection is a trace.
pub cut-is-trace : (T : Recording) (K : List ℕ) → IsTrace T → IsRising 0 K → AllByRecursion (λ k. k ≤ length T.events) K → IsTrace (cut T K)
cut-is-trace T K is rising within = record {
  format = is.format;
  few = omega (arith, length-filter_map T K, rising-few 0 (length T.events) K rising within, is.few);
  each = AllByRecursion-filter_map (IsEventIn T.format) T K is.each;
}
