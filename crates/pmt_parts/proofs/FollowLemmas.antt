-- The beginning of the next part, made from a part.
use Rattle.pmt_parts.proofs.Prelude.{◌≡◌, ℕ, zero, suc, ◌<◌, ◌≤◌, inl, inr, List, [], ◌∷◌, length, Option, None, Some, refl, sym, ap, subst, ◌∙◌, arith, ◌⊎◌, ◌↔◌, Stores, Flushes, Event, Recording, event, act, IsRising, Has, cut, matching_place, AllByRecursion, event-some, act-within, has-above, kept-act, placed-later, later-origin, ByteRange, Part, IsTaken, IsPartBut, IsPartOf, through, AreChosen}
use Rattle.pmt_parts.proofs.PartsCarryLemmas.{subsequence, has-late, by-end, part_carries_at}
use Rattle.pmt_parts.proofs.PickLemmas.{AreIn, has-through, rising-through, cut-through}

-- a cut has no more events than it has numbers
cut-fewer : (T : Recording) (K : List ℕ) → length (cut T K).events ≤ length K
cut-fewer T [] = omega arith
cut-fewer T (k ∷ K) = go (event T k) refl (cut-fewer T K)
  where
    go : (o : Option Event) → event T k ≡ o → length (cut T K).events ≤ length K → length (cut T (k ∷ K)).events ≤ length (k ∷ K)
    go None e rest = rw e (omega (arith, rest))
    go (Some x) e rest = rw e (omega (arith, rest))

-- an event of a part has its place there
cut-place : (T : Recording) (ranges : List ByteRange) (q r : ℕ) (K : List ℕ) (k : ℕ) → IsPartBut T ranges q r K → Has K k → matching_place K k ≤ length (cut T K).events
cut-place T ranges q r K zero part has = absurd (omega (arith, has-above 0 K 0 part.rising has))
cut-place T ranges q r K (suc n) part has =
    let s = subsequence T ranges q r K part in
    let some = event-some T n (omega (arith, s.within (suc n) has)) in
    (act-within (cut T K) (matching_place K (suc n)) (act T.format some.0) (kept-act T K (suc n) (act T.format some.0) s has (some.0, some.1, refl))).1

module _ (T : Recording) (ranges : List ByteRange) (q r n : ℕ) (K S : List ℕ) (part : IsPartBut T ranges q r K) (from : q ≤ n) (within : n ≤ r) where
  chosen-in : AreChosen (cut T K) ranges (matching_place K n) S → AreIn K S
  chosen-in chosen i has = go ((chosen i).0 has)
    where
      fewer : length (cut T K).events ≤ length K
      fewer = cut-fewer T K

      go : IsTaken (cut T K) ranges (matching_place K n) i ⊎ ((matching_place K n < i) × (i ≤ length (cut T K).events)) → (0 < i) × (i ≤ length K)
      go (inl (inl x, told)) = let at = act-within (cut T K) i (Stores x.line x.what) x.is_store in (omega (arith, at.0), omega (arith, at.1, fewer))
      go (inl (inr x, told)) = let at = act-within (cut T K) i (Flushes x.thread x.line) x.is_flush in (omega (arith, at.0), omega (arith, at.1, fewer))
      go (inr x) = (omega (arith, x.0), omega (arith, x.1, fewer))

  -- the numbers in the whole of what is chosen are those of the next part
  pub follows : IsRising 0 S → AreChosen (cut T K) ranges (matching_place K n) S → IsPartBut T ranges n r (through K S)
  follows rising chosen = record {
    order = within;
    within = part.within;
    rising = rising-through K S part.rising rising (chosen-in chosen);
    just = λ k. (there k, back k);
  }
    where
      both : (k : ℕ) → Has (through K S) k ↔ (Has K k × Has S (matching_place K k))
      both k = has-through K S k part.rising (chosen-in chosen)

      there : (k : ℕ) → Has (through K S) k → IsTaken T ranges n k ⊎ ((n < k) × (k ≤ r))
      there k has =
          let x = (both k).0 has in
          elim ((chosen (matching_place K k)).0 x.1) [
            | inl taken ↦ inl ((part_carries_at T ranges q r n K k part from within).1 (x.0, taken))
            | inr later ↦ inr (later-origin K n k later.0, by-end T ranges q r K part k x.0)
          ]

      back : (k : ℕ) → IsTaken T ranges n k ⊎ ((n < k) × (k ≤ r)) → Has (through K S) k
      back k (inl taken) =
          let x = (part_carries_at T ranges q r n K k part from within).0 taken in
          (both k).1 (x.0, (chosen (matching_place K k)).1 (inl x.1))
      back k (inr x) =
          let has = has-late T ranges q r K part k (omega (arith, from, x.0)) x.1 in
          let s = subsequence T ranges q r K part in
          (both k).1 (has, (chosen (matching_place K k)).1 (inr (placed-later T K n k s has x.0, cut-place T ranges q r K k part has)))

  pub cut-follows : AreChosen (cut T K) ranges (matching_place K n) S → cut (cut T K) S ≡ cut T (through K S)
  cut-follows chosen = cut-through T K S (subsequence T ranges q r K part) (chosen-in chosen)

-- ---- Steps of the code

pub next-is : (T : Recording) (ranges : List ByteRange) (p r : Part) (S : List ℕ) → p.place ≤ r.place → r.place ≤ p.end → r.before ≡ p.end → r.end ≡ p.end → IsRising 0 S →
    AreChosen p.trace ranges (matching_place p.numbers.items r.place) S → r.numbers.items ≡ through p.numbers.items S → r.trace ≡ cut p.trace S → IsPartOf T ranges p → IsPartOf T ranges r
next-is T ranges p r S from by before end rising chosen numbers trace it = record {
  order = omega (arith, by, before);
  answers = omega (arith, before, end);
  part = subst (λ n. IsPartBut T ranges r.place n r.numbers.items) (sym end) (subst (IsPartBut T ranges r.place p.end) (sym numbers) (follows T ranges p.place p.end r.place p.numbers.items S it.part from by rising own));
  trace = trace ∙ ap (λ P. cut P S) it.trace ∙ cut-follows T ranges p.place p.end r.place p.numbers.items S it.part from by own ∙ ap (cut T) (sym numbers);
}
  where
    own : AreChosen (cut T p.numbers.items) ranges (matching_place p.numbers.items r.place) S
    own = subst (λ P. AreChosen P ranges (matching_place p.numbers.items r.place) S) it.trace chosen

-- each number that is chosen is that of an event
all-within : (n : ℕ) (S : List ℕ) → ((i : ℕ) → Has S i → i ≤ n) → AllByRecursion (λ k. k ≤ n) S
all-within n [] within = tt
all-within n (i ∷ S) within = (within i (inl refl), all-within n S (λ j has. within j (inr has)))

pub chosen-within : (T : Recording) (ranges : List ByteRange) (m : ℕ) (S : List ℕ) → AreChosen T ranges m S → AllByRecursion (λ k. k ≤ length T.events) S
chosen-within T ranges m S chosen = all-within (length T.events) S (λ i has. go i ((chosen i).0 has))
  where
    go : (i : ℕ) → IsTaken T ranges m i ⊎ ((m < i) × (i ≤ length T.events)) → i ≤ length T.events
    go i (inl (inl x, told)) = (act-within T i (Stores x.line x.what) x.is_store).1
    go i (inl (inr x, told)) = (act-within T i (Flushes x.thread x.line) x.is_flush).1
    go i (inr x) = x.1
