-- The story of a failed assertion.
use Rattle.pmt_slices.proofs.Prelude.{◌≡◌, ◌≢◌, ℕ, suc, ◌<◌, ◌≤◌, inl, inr, Bool, List, length, Option, None, Some, false, true≢false, refl, sym, ap, subst, ◌∙◌, arith, ◌↔◌, MatchOption, nat_eq, eq-eqb, same_Some, Written, Span, Event, Op, IsPersist, IsOrderedBefore, Stores, Flushes, Fences, Recording, IsAct, event, IsRising, Has, option_eq, option_map, ByteStore, Failure, IsFirstFenceAt, IsFailureOf, IsFailureAt, act-unique, act-within, last_store_number-is, IsSafeFrom, IsFirstFlush, IsFirstFlushBy, Tells, Itself, IsRangeOf, IsSlice, TheAsserted, OfStore, IsChosen, IsCompletion, OfFence, OfClflush, IsComing, Chooses, IsOfStore, TheStore, TheFlush, TheCompletion, TheCover, TheFence, IsOfFailure, IsPart, IsTold, IsInStory, TheKept, OfLost, IsStory, StoryTells}
use Rattle.pmt_explain.specs.Prelude.{IsLastIn}
use Rattle.pmt_slices.specs.declared.story.StoryPart.TheVariants.{Kept, Saves, Flush, Cover, Fence}
use Rattle.pmt_slices.specs.declared.story.Story.{Story}
use Rattle.pmt_slices.specs.Stories.{TheAssertion}
use Rattle.pmt_slices.proofs.TellLemmas.{completed-is_safe}
use Rattle.pmt_slices.proofs.SliceLemmas.{tells-within, tells-some, persist-range, first-range, second-range}
use Rattle.pmt_slices.proofs.ComingLemmas.{tells-coming, coming-tells, told-safe, saved-at, flushed-at}
use Rattle.pmt_slices.proofs.ChosenLemmas.{chosen-within}
use Rattle.pmt_slices.proofs.FailureLemmas.{line-last}

-- ---- What an event is in it

module _ (T : Recording) (n : ℕ) (f : Failure) (s : Story) (is : IsStory T n f s) (k : ℕ) (has : Has s.numbers k) where
  within-story : IsInStory T n is.lost_one.line f k → k ≤ n
  within-story (TheAssertion e) = omega arith
  within-story (TheKept y at e some within) = within
  within-story (OfLost tells) = tells-within T n is.lost_one.line f.lost.store k is.lost_one.what is.lost_one.is_store is.lost_one.by_now tells

  by-now : k ≤ n
  by-now = within-story ((is.just k).0 has)

  pub part-saves : k ≡ s.coming.safe → IsSafeFrom T is.lost_one.line f.lost.store k
  part-saves e = subst (IsSafeFrom T is.lost_one.line f.lost.store) (sym e) (told-safe T is.lost_one.line f.lost.store n is.lost_one.what s.coming is.lost_one.is_store is.coming (omega (arith, e, by-now)))

  first-at : s.coming.flush < suc n → IsFirstFlush T is.lost_one.line f.lost.store s.coming.flush
  first-at h = let x = is.coming.flush.has h in record { is_flush = x.1; after = x.0; first = λ m after before flush. is.coming.flush.none_before m before (after, flush) }

  pub part-flush : k ≡ s.coming.flush → IsFirstFlush T is.lost_one.line f.lost.store k
  part-flush e = subst (IsFirstFlush T is.lost_one.line f.lost.store) (sym e) (first-at (omega (arith, e, by-now)))

  pub part-cover : k ≢ s.coming.safe → s.coming.safe ≤ s.assertion → k ≡ s.coming.cover → IsPart T n is.lost_one.line f Cover k
  part-cover apart early e = go (is.coming.cover (omega (arith, early, is.assertion)))
    where
      go : IsCompletion T is.lost_one.line f.lost.store s.coming.cover s.coming.safe → IsPart T n is.lost_one.line f Cover k
      go (OfFence t fence first before) = (
        t,
        s.coming.safe,
        told-safe T is.lost_one.line f.lost.store n is.lost_one.what s.coming is.lost_one.is_store is.coming (omega (arith, early, is.assertion)),
        fence,
        subst (IsFirstFlushBy T t is.lost_one.line f.lost.store) (sym e) first,
      )
      go (OfClflush clflush after own) = absurd (apart (e ∙ own))

  pub part-fence : k ≢ s.assertion → k ≢ s.lost → s.kept ≢ Some k → k ≢ s.coming.safe → k ≢ s.coming.flush → (s.coming.safe ≤ s.assertion → k ≢ s.coming.cover) → IsPart T n is.lost_one.line f Fence k
  part-fence no_assertion no_lost no_kept no_safe no_flush no_cover = go ((is.just k).0 has)
    where
      of : IsOfStore f.lost.store s.coming n k → IsPart T n is.lost_one.line f Fence k
      of (TheStore e) = absurd (no_lost (e ∙ sym is.lost))
      of (TheFlush e) = absurd (no_flush e)
      of (TheCompletion safe e) = absurd (no_safe e)
      of (TheCover safe e) = absurd (no_cover (omega (arith, safe, is.assertion)) e)
      of (TheFence late flushed e) =
          let y = (is.coming.fence (omega (arith, flushed))).has (omega (arith, e, by-now)) in
          let less : k < s.coming.safe = omega (arith, late, e, no_safe) in (
            s.coming.flush,
            first-at (omega (arith, flushed)),
            subst (IsFirstFenceAt T s.coming.flush n) (sym e) (record {
              thread = (y.1).0;
              is_fence = (y.1).1;
              after = y.0;
              by_now = omega (arith, e, by-now);
              none_before = λ m t after before fence. (is.coming.fence (omega (arith, flushed))).none_before m before (after, (t, fence));
            }),
            λ safe. is.coming.safe.none_before k less ((completed-is_safe T is.lost_one.line f.lost.store k is.lost_one.what is.lost_one.is_store).1 safe),
          )

      go : IsInStory T n is.lost_one.line f k → IsPart T n is.lost_one.line f Fence k
      go (TheAssertion e) = absurd (no_assertion (e ∙ sym is.assertion))
      go (TheKept y at e some within) = absurd (no_kept (is.kept ∙ ap (option_map (λ (z : ByteStore). z.store)) at ∙ ap Some (sym e)))
      go (OfLost tells) = of (tells-coming T is.lost_one.line f.lost.store n k is.lost_one.what s.coming is.lost_one.is_store is.coming tells)

  -- what it is not
  no-assertion : k ≢ s.assertion → k ≢ n
  no-assertion other e = other (e ∙ sym is.assertion)

  no-lost : k ≢ s.lost → k ≢ f.lost.store
  no-lost other e = other (e ∙ sym is.lost)

  no-kept : s.kept ≢ Some k → ¬ IsPart T n is.lost_one.line f Kept k
  no-kept other x = other (is.kept ∙ ap (option_map (λ (z : ByteStore). z.store)) x.1 ∙ ap Some (sym x.2))

  no-saves : k ≢ s.coming.safe → ¬ IsSafeFrom T is.lost_one.line f.lost.store k
  no-saves other from = other (saved-at T is.lost_one.line f.lost.store n k is.lost_one.what s.coming is.lost_one.is_store is.coming by-now from)

  no-flush : k ≢ s.coming.flush → ¬ IsFirstFlush T is.lost_one.line f.lost.store k
  no-flush other first = other (flushed-at T is.lost_one.line f.lost.store n k s.coming is.coming by-now first)

  fence-no-cover : IsPart T n is.lost_one.line f Fence k → ¬ IsPart T n is.lost_one.line f Cover k
  fence-no-cover x y =
      let same = act-unique T k (Flushes y.0 is.lost_one.line) (Fences x.2.thread) y.4.is_flush x.2.is_fence in
      cc

  -- what it is told to be
  pub told-saves : k ≢ s.assertion → k ≢ s.lost → s.kept ≢ Some k → k ≡ s.coming.safe → IsTold T n is.lost_one.line f Saves k
  told-saves a b c e = inr (no-assertion a, inr (no-lost b, inr (no-kept c, inl (refl, part-saves e))))

  pub told-flush : k ≢ s.assertion → k ≢ s.lost → s.kept ≢ Some k → k ≢ s.coming.safe → k ≡ s.coming.flush → IsTold T n is.lost_one.line f Flush k
  told-flush a b c d e = inr (no-assertion a, inr (no-lost b, inr (no-kept c, inr (no-saves d, inl (refl, part-flush e)))))

  pub told-cover : k ≢ s.assertion → k ≢ s.lost → s.kept ≢ Some k → k ≢ s.coming.safe → k ≢ s.coming.flush → s.coming.safe ≤ s.assertion → k ≡ s.coming.cover → IsTold T n is.lost_one.line f Cover k
  told-cover a b c d e early at = inr (no-assertion a, inr (no-lost b, inr (no-kept c, inr (no-saves d, inr (no-flush e, inl (refl, part-cover d early at))))))

  pub told-fence : k ≢ s.assertion → k ≢ s.lost → s.kept ≢ Some k → k ≢ s.coming.safe → k ≢ s.coming.flush → (s.coming.safe ≤ s.assertion → k ≢ s.coming.cover) → IsTold T n is.lost_one.line f Fence k
  told-fence a b c d e g =
      let own = part-fence a b c d e g in
      inr (no-assertion a, inr (no-lost b, inr (no-kept c, inr (no-saves d, inr (no-flush e, inr (fence-no-cover own, inl (refl, own)))))))

pub part-unkept : (o : Option ℕ) (k : ℕ) → option_eq nat_eq o (Some k) ≡ false → o ≢ Some k
part-unkept None k other = λ e. cc
part-unkept (Some y) k other = λ e. true≢false (sym (eq-eqb y k (same_Some y k e)) ∙ other)

-- ---- How it is made

pub story-made : (T : Recording) (n : ℕ) (f : Failure) (l : ℕ) (w : Written) (s : Story) (before chosen : List Bool) → IsAct T f.lost.store (Stores l w) → f.lost.store ≤ n → n ≤ length T.events → IsComing T l f.lost.store (suc n) s.coming →
    IsRising 0 s.numbers → ((k : ℕ) → Has s.numbers k ↔ IsChosen chosen k) → ((k : ℕ) → IsChosen before k ↔ (k ≡ n)) → length before ≡ n → Chooses (IsOfFailure f s.coming (length before)) before chosen →
    s.assertion ≡ n → s.lost ≡ f.lost.store → s.kept ≡ option_map (λ (y : ByteStore). y.store) f.kept → IsStory T n f s
story-made T n f l w s before chosen is by within coming rising just only size chooses assertion lost kept = record {
  lost_one = record { line = l; what = w; is_store = is; by_now = by; within = within };
  rising = rising;
  just = λ k. (λ has. there k ((just k).0 has), λ own. (just k).1 (back k own));
  assertion = assertion;
  lost = lost;
  kept = kept;
  coming = coming;
}
  where
    there : (k : ℕ) → IsChosen chosen k → IsInStory T n l f k
    there k own = elim (chooses.just k own) [
      | inl old ↦ TheAssertion ((only k).0 old)
      | inr new ↦ elim new [
        | inl x ↦ TheKept x.0 x.1 x.2 (chosen-within chosen k own).0 (omega (arith, (chosen-within chosen k own).1, chooses.size, size))
        | inr of ↦ OfLost (coming-tells T l f.lost.store n k w s.coming is coming (omega (arith, (chosen-within chosen k own).1, chooses.size, size)) (subst (λ m. IsOfStore f.lost.store s.coming m k) size of))
      ]
    ]

    back : (k : ℕ) → IsInStory T n l f k → IsChosen chosen k
    back k (TheAssertion e) = chooses.stays k ((only k).1 e)
    back k (TheKept y at e some inside) = chooses.own k some (omega (arith, inside, size)) (inl (y, at, e))
    back k (OfLost tells) =
        chooses.own k (tells-some T n l f.lost.store k w is tells) (omega (arith, tells-within T n l f.lost.store k w is by tells, size))
        (inr (subst (λ m. IsOfStore f.lost.store s.coming m k) (sym size) (tells-coming T l f.lost.store n k w s.coming is coming tells)))

-- ---- What it tells

-- The failure is of an assertion: its lost store is the last one to a byte of a range of it, and so is the kept one, if there is one.
record IsOfRanges (T : Recording) (n : ℕ) (f : Failure) : Type 0 where
  pub range : Span
  pub is_range : IsRangeOf T n range
  pub lost : IsLastIn T n range f.lost
  pub kept : (y : ByteStore) → f.kept ≡ Some y → (B : Span) × IsRangeOf T n B × IsLastIn T n B y

failure-ranges : (T : Recording) (n : ℕ) (f : Failure) → IsFailureAt T n (Some f) → IsOfRanges T n f
failure-ranges T n f fails = go (event T n) refl fails
  where
    of-op : (e : Event) → event T n ≡ Some e → (op : Op) → e.op ≡ op → IsFailureOf T n op (Some f) → IsOfRanges T n f
    of-op e is (IsPersist A) op it = record { range = A; is_range = persist-range T n e A is op; lost = it.lost.is_last; kept = λ y at. let none = it.kept in cc }
    of-op e is (IsOrderedBefore A B) op it = record {
      range = A;
      is_range = first-range T n e A B is op;
      lost = it.lost.is_last;
      kept = λ y at. (B, second-range T n e A B is op, subst (IsLastIn T n B) (same_Some it.kept y (sym it.is_kept ∙ at)) it.is_last);
    }
    of-op e is other op it = cc

    go : (o : Option Event) → event T n ≡ o → MatchOption o (Some f ≡ None) (λ e. IsFailureOf T n e.op (Some f)) → IsOfRanges T n f
    go None none it = cc
    go (Some e) is it = of-op e is e.op refl it

of-slice : (T : Recording) (n k : ℕ) (K : List ℕ) (f : Failure) (s : Story) → IsFailureAt T n (Some f) → IsSlice T n K → IsStory T n f s → Has s.numbers k → Has K k
of-slice T n k K f s fails slice is has = go ((is.just k).0 has)
  where
    ranges : IsOfRanges T n f
    ranges = failure-ranges T n f fails

    go : IsInStory T n is.lost_one.line f k → Has K k
    go (TheAssertion e) = (slice.just k).1 (TheAsserted e)
    go (TheKept y at e some within) =
        let x = ranges.kept y at in
        let own = line-last T n x.0 y x.2 in
        (slice.just k).1 (OfStore x.0 own.0 y.store x.1 own.1 (Itself e))
    go (OfLost tells) =
        let own = line-last T n ranges.range f.lost ranges.lost in
        let same = act-unique T f.lost.store (Stores is.lost_one.line is.lost_one.what) (Stores own.0 own.1.what) is.lost_one.is_store own.1.is_store in
        let line : is.lost_one.line ≡ own.0 = cc in
        (slice.just k).1 (OfStore ranges.range own.0 f.lost.store ranges.is_range own.1 (subst (λ l. Tells T n l f.lost.store k) line tells))

pub story_tells : StoryTells
story_tells = record {
  of_slice = of-slice;
  lost = λ T n f s fails is. (is.just f.lost.store).1 (OfLost (Itself refl));
  kept = λ T n f y s fails at is.
      let x = (failure-ranges T n f fails).kept y at in
      let writer = last_store_number-is T y.byte n y.store x.2.last in
      (is.just y.store).1 (TheKept y at refl (act-within T y.store (Stores writer.line writer.what) writer.is_store).0 writer.by_now);
  assertion = λ T n f s fails is. (is.just n).1 (TheAssertion refl);
}
