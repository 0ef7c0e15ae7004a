-- Flushes that are open at a store to another line, and the places of others, from the last number of what is kept to the first.
use Rattle.std.proofs.Common.{◌≡◌, ℕ, ◌<◌, ◌⊎◌, inl, inr, Bool, true, false, List, [], ◌∷◌, ◌++◌, Option, None, Some, refl, sym, ap, subst, ◌∙◌, arith, drop, get_or, length, suc, zero}
use Rattle.std.specs.Prelude.{◌↔◌, ◌||◌, if◌then◌else◌, reverse}
use Rattle.pmt_laws.specs.Prelude.{Flushes, Recording, IsAct, event, IsKeep, IsRising, Has}
use Rattle.std.proofs.lemmas.Bool.{false≢true, or_cases, or_left, or_right}
use Rattle.std.proofs.lemmas.List.{append-nil, reverse-append}
use Rattle.pmt_causes.specs.declared.failure_keys.Origin.{Origin}
use Rattle.pmt_causes.specs.Groups.{origin_of}
use Rattle.pmt_causes.proofs.ExactFailures.{origin-exact}
use Rattle.pmt_hints.specs.declared.places.Places.{Places}
use Rattle.pmt_hints.specs.Hints.{AreThose, IsOpenAtStore, IsOpenFlush}
use Rattle.pmt_hints.specs.Claiming.{if_told}
use Rattle.pmt_hints.specs.Contrasts.{AreShut, has_place, is_place, place_of}
use Rattle.pmt_hints.proofs.ClaimLemmas.{has-get, rising-above}
use Rattle.pmt_hints.proofs.SplitLemmas.{origin-same}
use Rattle.pmt_hints.proofs.TellingLemmas.{flush-place, place-flush}

-- those after one of rising numbers
pub has-after : (low : ℕ) (ks : List ℕ) (i k : ℕ) → IsRising low ks → i < length ks → Has (drop (suc i) ks) k ↔ (Has ks k × (get_or ks i 0 < k))
has-after low [] i k r within = absurd (omega (arith, within))
has-after low (x ∷ xs) zero k r within = (λ h. (inr h, rising-above x xs k r.1 h), λ h. elim h.0 [ inl here ↦ absurd (omega (arith, here, h.1)) | inr more ↦ more ])
has-after low (x ∷ xs) (suc i) k r within =
    let inside : i < length xs = omega (arith, within) in
    let rest : Has (drop (suc i) xs) k ↔ (Has xs k × (get_or xs i 0 < k)) = has-after x xs i k r.1 inside in (
      λ h. (inr (rest.0 h).0, (rest.0 h).1),
      λ h. elim h.0 [ inl here ↦ absurd (omega (arith, here, h.1, rising-above x xs (get_or xs i 0) r.1 (has-get xs i inside))) | inr more ↦ rest.1 (more, h.1) ],
    )

rising-from : (low x : ℕ) (xs : List ℕ) → IsRising low xs → ((k : ℕ) → Has xs k → x < k) → IsRising x xs
rising-from low x [] r above = tt
rising-from low x (k ∷ ks) r above = (above k (inl refl), r.1)

place-so : (T : Recording) (labels : List (Option ℕ)) (i t l : ℕ) → IsAct T i (Flushes t l) → is_place (origin_of labels i t) (place_of labels i (event T i)) ≡ true
place-so T labels i t l is = ap (is_place (origin_of labels i t)) (flush-place T labels i t l is) ∙ origin-same (origin_of labels i t)

-- event j is a flush of the place that is not open
abbrev IsOther : Recording → List (Option ℕ) → Origin → ℕ → Type 0
IsOther T labels p j = (t : ℕ) × (l : ℕ) × IsAct T j (Flushes t l) × (p ≡ origin_of labels j t) × (¬ IsOpenFlush T j)

other-by : (T : Recording) (labels : List (Option ℕ)) (j : ℕ) (p : Origin) → (¬ IsOpenFlush T j) → is_place p (place_of labels j (event T j)) ≡ true → IsOther T labels p j
other-by T labels j p other e = go (place_of labels j (event T j)) refl e
  where
    go : (o : Option Origin) → place_of labels j (event T j) ≡ o → is_place p o ≡ true → IsOther T labels p j
    go None at e = absurd (false≢true e)
    go (Some q) at e = let f = place-flush T labels j p (at ∙ ap Some (origin-exact q p e)) in (f.0, f.1, f.2, f.3, other)

-- of these events, those that are open, and the places of the others
pub record AreSifted (T : Recording) (labels : List (Option ℕ)) (later passed : List ℕ) (closed : Places) : Type 0 where
  pub rising : IsRising 0 passed
  pub are_open : (i : ℕ) → Has passed i ↔ (Has later i × IsOpenFlush T i)
  pub just : (p : Origin) → has_place closed p ≡ true → (j : ℕ) × Has later j × IsOther T labels p j
  pub each : (j t l : ℕ) → Has later j → IsAct T j (Flushes t l) → IsOpenFlush T j ⊎ (has_place closed (origin_of labels j t) ≡ true)

pub sifted-none : (T : Recording) (labels : List (Option ℕ)) (passed : List ℕ) (closed : Places) → passed ≡ [] → ((p : Origin) → has_place closed p ≡ false) → AreSifted T labels [] (reverse passed) closed
sifted-none T labels passed closed none all = rw none (record { rising = tt; are_open = λ i. (λ h. absurd h, λ h. absurd h.0); just = λ p e. absurd (false≢true (sym (all p) ∙ e)); each = λ j t l h is. absurd h })

-- one event before them
pub sifted-more : (T : Recording) (labels : List (Option ℕ)) (later old new : List ℕ) (closed wider : Places) (x : ℕ) (b : Bool) (o : Option Origin) → 0 < x → ((k : ℕ) → Has later k → x < k) → (b ≡ true) ↔ IsOpenFlush T x → o ≡ place_of labels x (event T x) →
    new ≡ old ++ if_told b x → ((p : Origin) → has_place wider p ≡ (has_place closed p || is_place p (if b then None else o))) → AreSifted T labels later (reverse old) closed → AreSifted T labels (x ∷ later) (reverse new) wider
sifted-more T labels later old new closed wider x true o some above told place made wide s = rw turned (record {
  rising = (some, rising-from 0 x (reverse old) s.rising (λ k h. above k ((s.are_open k).0 h).0));
  are_open = λ i. (
    λ h. elim h [ inl e ↦ (inl e, subst (IsOpenFlush T) e (told.0 refl)) | inr more ↦ (inr ((s.are_open i).0 more).0, ((s.are_open i).0 more).1) ],
    λ h. elim h.0 [ inl e ↦ inl e | inr more ↦ inr ((s.are_open i).1 (more, h.1)) ],
  );
  just = λ p e. elim (or_cases (has_place closed p) false (sym (wide p) ∙ e)) [ inl was ↦ (let f = s.just p was in (f.0, inr f.1, f.2)) | inr never ↦ absurd (false≢true never) ];
  each = λ j t l h is. elim h [
    | inl e ↦ inl (subst (IsOpenFlush T) e (told.0 refl))
    | inr more ↦ elim (s.each j t l more is) [ inl open_one ↦ inl open_one | inr shut ↦ inr (wide (origin_of labels j t) ∙ or_left _ _ shut) ]
  ];
})
  where
    turned : reverse new ≡ x ∷ reverse old
    turned = ap (λ xs. reverse xs) made ∙ reverse-append old (x ∷ [])
sifted-more T labels later old new closed wider x false o some above told place made wide s = rw turned (record {
  rising = s.rising;
  are_open = λ i. (
    λ h. (inr ((s.are_open i).0 h).0, ((s.are_open i).0 h).1),
    λ h. elim h.0 [ inl e ↦ absurd (other (subst (IsOpenFlush T) (sym e) h.1)) | inr more ↦ (s.are_open i).1 (more, h.1) ],
  );
  just = λ p e. elim (or_cases (has_place closed p) (is_place p o) (sym (wide p) ∙ e)) [
    | inl was ↦ let f = s.just p was in (f.0, inr f.1, f.2)
    | inr here ↦ (x, inl refl, other-by T labels x p other (ap (is_place p) (sym place) ∙ here))
  ];
  each = λ j t l h is. elim h [
    | inl e ↦ inr (wide (origin_of labels j t) ∙ or_right _ _ (ap (is_place (origin_of labels j t)) (place ∙ ap (λ i. place_of labels i (event T i)) e) ∙ place-so T labels j t l is))
    | inr more ↦ elim (s.each j t l more is) [ inl open_one ↦ inl open_one | inr shut ↦ inr (wide (origin_of labels j t) ∙ or_left _ _ shut) ]
  ];
})
  where
    turned : reverse new ≡ reverse old
    turned = ap (λ xs. reverse xs) (made ∙ append-nil old)

    other : ¬ IsOpenFlush T x
    other h = false≢true (told.1 h)

-- all that is kept
pub sifted-those : (T : Recording) (labels : List (Option ℕ)) (kept passed : List ℕ) (closed : Places) → IsKeep T kept → AreSifted T labels kept passed closed → AreThose (IsOpenAtStore T) passed
sifted-those T labels kept passed closed keep s = record {
  rising = s.rising;
  just = λ i. (λ h. let both = (s.are_open i).0 h in ((keep.just i).0 both.0, both.1), λ h. (s.are_open i).1 ((keep.just i).1 h.0, h.1));
}

pub sifted-shut : (T : Recording) (labels : List (Option ℕ)) (kept passed : List ℕ) (closed : Places) → IsKeep T kept → AreSifted T labels kept passed closed → AreShut T labels closed
sifted-shut T labels kept passed closed keep s = record {
  just = λ p e. let f = s.just p e in let flush = f.2 in (f.0, flush.0, flush.1, (keep.just f.0).0 f.1, flush.2, flush.3, flush.4);
  each = λ j t l is_kept is. s.each j t l ((keep.just j).1 is_kept) is;
}
