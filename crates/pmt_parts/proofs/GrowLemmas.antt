-- A part with one more event of its stretch.
use Rattle.pmt_parts.proofs.Prelude.{◌≡◌, ℕ, zero, suc, ◌+◌, ◌<◌, ◌≤◌, inl, inr, List, [], ◌∷◌, ◌++◌, length, get_or, take, Some, filter_map, drop, append_assoc, refl, sym, ap, subst, ◌∙◌, arith, ◌⊎◌, slice_get, cases_lt, take-suc, Event, Recording, event, Has, cut, with_event, ByteRange, Part, IsTaken, IsPartBut, IsPartOf, ComesNext, has-both, rising-both}
use Rattle.std.proofs.lemmas.List.Elements.{filter_map-append}
use Rattle.pmt_parts.proofs.PartsCarryLemmas.{by-end}

pub part-more : (T : Recording) (ranges : List ByteRange) (q r : ℕ) (K : List ℕ) → IsPartBut T ranges q r K → suc r ≤ length T.events → IsPartBut T ranges q (suc r) (K ++ suc r ∷ [])
part-more T ranges q r K part within = record {
  order = omega (arith, part.order);
  within = within;
  rising = rising-both 0 r K (suc r ∷ []) part.rising (λ k has. by-end T ranges q r K part k has) (omega arith) (omega arith, tt);
  just = λ k. (there k, back k);
}
  where
    there : (k : ℕ) → Has (K ++ suc r ∷ []) k → IsTaken T ranges q k ⊎ ((q < k) × (k ≤ suc r))
    there k has = elim ((has-both K (suc r ∷ []) k).0 has) [
      | inl old ↦ elim ((part.just k).0 old) [ inl taken ↦ inl taken | inr x ↦ inr (x.0, omega (arith, x.1)) ]
      | inr new ↦ elim new [ inl e ↦ inr (omega (arith, e, part.order), omega (arith, e)) | inr none ↦ absurd none ]
    ]

    back : (k : ℕ) → IsTaken T ranges q k ⊎ ((q < k) × (k ≤ suc r)) → Has (K ++ suc r ∷ []) k
    back k (inl taken) = (has-both K (suc r ∷ []) k).1 (inl ((part.just k).1 (inl taken)))
    back k (inr x) = elim (cases_lt r k) [
      | inl now ↦ (has-both K (suc r ∷ []) k).1 (inr (inl (omega (arith, now, x.1))))
      | inr old ↦ (has-both K (suc r ∷ []) k).1 (inl ((part.just k).1 (inr (x.0, old))))
    ]

pub cut-more : (T : Recording) (K : List ℕ) (k : ℕ) (e : Event) → event T k ≡ Some e → cut T (K ++ k ∷ []) ≡ with_event (cut T K) e
cut-more T K k e is = ap (λ es. record { format = T.format; events = es }) (filter_map-append (event T) K (k ∷ []) ∙ ap (λ xs. filter_map (event T) K ++ xs) last)
  where
    last : filter_map (event T) (k ∷ []) ≡ e ∷ []
    last = rw is refl

-- ---- The events that come next

slice-drop : (n i : ℕ) (xs : List Event) → slice_get (drop n xs) i ≡ slice_get xs (n + i)
slice-drop zero i xs = let e : 0 + i ≡ i = omega arith in rw e refl
slice-drop (suc n) i [] = refl
slice-drop (suc n) i (x ∷ xs) = let e : suc n + i ≡ suc (n + i) = omega arith in rw e (slice-drop n i xs)

slice-front : (i : ℕ) (xs ys : List Event) (e : Event) → slice_get xs i ≡ Some e → slice_get (xs ++ ys) i ≡ Some e
slice-front i [] ys e is = absurd (cc)
slice-front zero (x ∷ xs) ys e is = is
slice-front (suc i) (x ∷ xs) ys e is = slice-front i xs ys e is

pub next-event : (T : Recording) (n i : ℕ) (block later : List Event) (e : Event) → drop n T.events ≡ block ++ later → slice_get block i ≡ Some e → event T (suc (n + i)) ≡ Some e
next-event T n i block later e comes is = sym (slice-drop n i T.events) ∙ ap (λ xs. slice_get xs i) comes ∙ slice-front i block later e is

event-within : (xs : List Event) (i : ℕ) (e : Event) → slice_get xs i ≡ Some e → i < length xs
event-within [] i e is = absurd (cc)
event-within (x ∷ xs) zero e is = omega arith
event-within (x ∷ xs) (suc i) e is = omega (arith, event-within xs i e is)

pub within-events : (T : Recording) (r : ℕ) (e : Event) → event T (suc r) ≡ Some e → suc r ≤ length T.events
within-events T r e is = event-within T.events r e is

-- ---- Steps of the code

pub part-pushed : (T : Recording) (ranges : List ByteRange) (p r : Part) (e : Event) → r.place ≡ p.place → r.before ≡ p.before → r.end ≡ p.end + 1 → r.numbers.items ≡ p.numbers.items ++ (p.end + 1) ∷ [] → r.trace ≡ with_event p.trace e →
    IsPartOf T ranges p → event T (suc p.end) ≡ Some e → IsPartOf T ranges r
part-pushed T ranges p r e place before end numbers trace it comes = record {
  order = omega (arith, it.order, place, before);
  answers = omega (arith, it.answers, before, end);
  part = subst (λ q. IsPartBut T ranges q r.end r.numbers.items) (sym place) (subst (λ n. IsPartBut T ranges p.place n r.numbers.items) (sym last) (subst (IsPartBut T ranges p.place (suc p.end)) (sym more) (
      part-more T ranges p.place p.end p.numbers.items it.part (within-events T p.end e comes))));
  trace = trace ∙ ap (λ P. with_event P e) it.trace ∙ sym (cut-more T p.numbers.items (suc p.end) e comes) ∙ ap (cut T) (sym more);
}
  where
    next : p.end + 1 ≡ suc p.end
    next = omega arith

    last : r.end ≡ suc p.end
    last = end ∙ next

    more : r.numbers.items ≡ p.numbers.items ++ suc p.end ∷ []
    more = numbers ∙ ap (λ k. p.numbers.items ++ k ∷ []) next

pub events-more : (xs ys zs : List Event) (i : ℕ) (e : Event) → i < length ys → get_or ys i e ≡ e → zs ≡ xs ++ take i ys → zs ++ e ∷ [] ≡ xs ++ take (i + 1) ys
events-more xs ys zs i e within is so_far =
    let next : i + 1 ≡ suc i = omega arith in
    ap (λ ws. ws ++ e ∷ []) so_far ∙ append_assoc xs (take i ys) (e ∷ [])
    ∙ ap (λ ws. xs ++ ws) (ap (λ x. take i ys ++ x ∷ []) (sym is) ∙ sym (take-suc ys i e within) ∙ ap (λ k. take k ys) (sym next))

pub next-comes : (T : Recording) (block : Recording) (start end i : ℕ) (e : Event) → ComesNext T start block → end ≡ start + i → slice_get block.events i ≡ Some e → event T (suc end) ≡ Some e
next-comes T block start end i e comes place is = ap (λ k. event T (suc k)) place ∙ next-event T start i block.events comes.0 e comes.1 is
