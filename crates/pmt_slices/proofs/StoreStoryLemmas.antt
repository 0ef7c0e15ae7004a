-- The story of a store.
use Rattle.pmt_slices.proofs.Prelude.{◌≡◌, ◌≢◌, ℕ, zero, suc, ◌<◌, ◌≤◌, ◌⊎◌, inl, inr, Bool, List, [], ◌∷◌, length, Some, refl, sym, subst, ◌∙◌, arith, ◌↔◌, slice_get, cases_lt, same_Some, slice_get_within, Written, Event, Stores, Flushes, Clflushes, Fences, Recording, IsAct, act, event, IsRising, Has, IsFlushOf, ByFlush, ByClflush, IsSafe, IsFirstFenceAt, act-within, act-unique, IsSafeFrom, past_of, IsFirstFlush, IsFirstFlushBy, Tells, Covers, FirstFence, IsChosen, IsCompletion, OfFence, OfClflush, Chooses, IsOfStore, TheStore, TheFlush, TheCompletion, TheCover, TheFence, IsStoreBy, line_in, IsFate, turn_of, IsTurn, IsOther, AreOthers, IsOfOthers, IsOfStory, IsNextFence, IsStorePart, IsStoreTold, IsInStoreStory, OfOthers, IsStoreStory}
use Rattle.pmt_slices.specs.declared.store_story.StorePart.TheVariants as part
use Rattle.pmt_slices.specs.declared.store_story.StoreStory.{StoreStory}
use Rattle.pmt_slices.specs.declared.store_story.Turn.{Turn}
use Rattle.pmt_slices.specs.declared.store_story.Turn.TheVariants as turn
use Rattle.pmt_slices.specs.Stories.{OfStore, OwnFence}
use Rattle.pmt_slices.proofs.SliceLemmas.{tells-within, tells-some}
use Rattle.pmt_slices.proofs.ComingLemmas.{tells-coming, coming-tells, told-safe, saved-at, flushed-at}
use Rattle.pmt_slices.proofs.ChosenLemmas.{chosen-within}
use Rattle.pmt_slices.proofs.StoreSliceLemmas.{store-by, unsafe-before, safe-from}

-- ---- The flushes of other lines

turn-within : (T : Recording) (t l k : ℕ) (x : Turn) → IsTurn T t l x k → (1 ≤ k) × (k ≤ length T.events)
turn-within T t l k x is = act-within T k (act T.format is.0) (is.0, is.1, refl)

-- the event at a place is by the thread, and this to the line
turn-at : (T : Recording) (t l k : ℕ) (x : Turn) (e : Event) → event T k ≡ Some e → IsTurn T t l x k → (e.thread ≡ t) × (turn_of T.format l e.op ≡ x)
turn-at T t l k x e is at =
    let same : at.0 ≡ e = same_Some at.0 e (sym at.1 ∙ is) in
    (subst (λ (g : Event). g.thread ≡ t) same at.2, subst (λ (g : Event). turn_of T.format l g.op ≡ x) same at.3)

one-turn : (T : Recording) (t l k : ℕ) (x y : Turn) → IsTurn T t l x k → IsTurn T t l y k → x ≡ y
one-turn T t l k x y is other = sym (is.3) ∙ (turn-at T t l k y is.0 is.1 other).1

-- Event k is one of them, and at most n.
abbrev pub IsOtherBy : Recording → ℕ → ℕ → ℕ → ℕ → ℕ → Type 0
IsOtherBy T t l j n k = (k ≤ n) × IsOther T t l j k

-- Neither a fence of the thread nor a flush of the line stands after event j up to event n.
abbrev pub NoStop : Recording → ℕ → ℕ → ℕ → ℕ → Type 0
NoStop T t l j n = (m : ℕ) → j < m → m ≤ n → ¬ IsTurn T t l turn.Stop m

chooses-same : (P Q : ℕ → Type 0) (old new : List Bool) → ((k : ℕ) → P k → Q k) → ((k : ℕ) → Q k → P k) → Chooses P old new → Chooses Q old new
chooses-same P Q old new there back c = record {
  size = c.size;
  stays = c.stays;
  own = λ k some within q. c.own k some within (back k q);
  just = λ k x. elim (c.just k x) [ inl before ↦ inl before | inr p ↦ inr (there k p) ];
}

-- over an event that is nothing to the line, or of another thread
pub chooses-over : (T : Recording) (t l j i : ℕ) (e : Event) (old new : List Bool) → event T (suc i) ≡ Some e → (e.thread ≡ t → turn_of T.format l e.op ≡ turn.Nothing) →
    Chooses (IsOtherBy T t l j i) old new → Chooses (IsOtherBy T t l j (suc i)) old new
chooses-over T t l j i e old new is none c = chooses-same (IsOtherBy T t l j i) (IsOtherBy T t l j (suc i)) old new (λ k x. (omega (arith, x.0), x.1)) back c
  where
    back : (k : ℕ) → IsOtherBy T t l j (suc i) k → IsOtherBy T t l j i k
    back k x = elim (cases_lt k (suc i)) [
      | inl sooner ↦ (omega arith, x.1)
      | inr here ↦
          let same : k ≡ suc i = omega (arith, x.0) in
          let y = turn-at T t l (suc i) turn.Other e is (subst (IsTurn T t l turn.Other) same x.1.is_flush) in
          let z = none y.0 in
          let apart : turn.Nothing ≡ turn.Other = sym z ∙ y.1 in
          cc
    ]

pub stop-over : (T : Recording) (t l j i : ℕ) (e : Event) → event T (suc i) ≡ Some e → (e.thread ≡ t → turn_of T.format l e.op ≢ turn.Stop) → NoStop T t l j i → NoStop T t l j (suc i)
stop-over T t l j i e is other none m after by at = elim (cases_lt m (suc i)) [
  | inl sooner ↦ none m after (omega arith) at
  | inr here ↦
      let same : m ≡ suc i = omega arith in
      let y = turn-at T t l (suc i) turn.Stop e is (subst (IsTurn T t l turn.Stop) same at) in
      other y.0 y.1
]

-- over one of them
pub other-here : (T : Recording) (t l j i : ℕ) (e : Event) → event T (suc i) ≡ Some e → e.thread ≡ t → turn_of T.format l e.op ≡ turn.Other → j ≤ i → NoStop T t l j i → IsOther T t l j (suc i)
other-here T t l j i e is thread turn by none = record { is_flush = (e, is, thread, turn); after = omega arith; sooner = λ m after before at. none m after (omega arith) at }

pub chooses-here : (T : Recording) (t l j i : ℕ) (old before new : List Bool) → IsOther T t l j (suc i) → Chooses (IsOtherBy T t l j i) old before → length new ≡ length before →
    ((k : ℕ) → IsChosen before k → IsChosen new k) → (suc i ≤ length before → IsChosen new (suc i)) → ((k : ℕ) → IsChosen new k → IsChosen before k ⊎ (k ≡ suc i)) → Chooses (IsOtherBy T t l j (suc i)) old new
chooses-here T t l j i old before new here c size stays own just = record {
  size = size ∙ c.size;
  stays = λ k x. stays k (c.stays k x);
  own = λ k some within x. elim (cases_lt k (suc i)) [
    | inl sooner ↦ stays k (c.own k some within (omega arith, x.1))
    | inr from ↦ let same : suc i ≡ k = omega (arith, x.0) in subst (IsChosen new) same (own (omega (arith, within, same, c.size)))
  ];
  just = λ k x. elim (just k x) [
    | inl was ↦ elim (c.just k was) [ inl o ↦ inl o | inr p ↦ inr (omega (arith, p.0), p.1) ]
    | inr e ↦ inr (omega (arith, e), subst (IsOther T t l j) (sym e) here)
  ];
}

-- when all events were met
pub chooses-all : (T : Recording) (t l j n : ℕ) (old new : List Bool) → length T.events ≤ n → Chooses (IsOtherBy T t l j n) old new → Chooses (IsOther T t l j) old new
chooses-all T t l j n old new all c = chooses-same (IsOtherBy T t l j n) (IsOther T t l j) old new (λ k x. x.1) (λ k x. (omega (arith, all, (turn-within T t l k turn.Other x.is_flush).1), x)) c

-- at a fence of the thread, or a flush of the line
pub chooses-stop : (T : Recording) (t l j i : ℕ) (old new : List Bool) → IsTurn T t l turn.Stop (suc i) → j ≤ i → Chooses (IsOtherBy T t l j i) old new → Chooses (IsOther T t l j) old new
chooses-stop T t l j i old new stop by c = chooses-same (IsOtherBy T t l j i) (IsOther T t l j) old new (λ k x. x.1) (λ k x. (sooner k x, x)) c
  where
    sooner : (k : ℕ) → IsOther T t l j k → k ≤ i
    sooner k x = elim (cases_lt k (suc i)) [
      | inl less ↦ omega arith
      | inr from ↦ elim (cases_lt (suc i) k) [
        | inl later ↦ absurd (x.sooner (suc i) (omega arith) later stop)
        | inr upto ↦
            let same : k ≡ suc i = omega (arith, from, upto) in
            let apart = one-turn T t l (suc i) turn.Other turn.Stop (subst (IsTurn T t l turn.Other) same x.is_flush) stop in
            cc
      ]
    ]

-- they are listed
pub others-made : (T : Recording) (t l j : ℕ) (K : List ℕ) (before chosen : List Bool) → IsRising 0 K → ((k : ℕ) → Has K k ↔ IsChosen chosen k) → ((k : ℕ) → IsChosen before k → ⊥) → length before ≡ length T.events →
    Chooses (IsOther T t l j) before chosen → AreOthers T t l j K
others-made T t l j K before chosen rising just none size c = record {
  rising = rising;
  just = λ k. (
    λ has. elim (c.just k ((just k).0 has)) [ inl old ↦ absurd (none k old) | inr x ↦ x ],
    λ x. let within = turn-within T t l k turn.Other x.is_flush in (just k).1 (c.own k within.0 (omega (arith, within.1, size)) x),
  );
}

-- ---- The few of them that are chosen

-- Event k is one of these, among the first n.
abbrev pub IsFewBy : List ℕ → ℕ → ℕ → Type 0
IsFewBy others n k = (i : ℕ) × (i < n) × (slice_get others i ≡ Some k) × ((i < 3) ⊎ (suc i ≡ length others))

-- what stands in a list at a place is in it
get-has : (xs : List ℕ) (i k : ℕ) → slice_get xs i ≡ Some k → Has xs k
get-has [] i k e = absurd (omega (arith, slice_get_within [] i k e))
get-has (x ∷ xs) zero k e = inl (same_Some x k e)
get-has (x ∷ xs) (suc i) k e = inr (get-has xs i k e)

-- ---- What an event is in it

module _ (T : Recording) (j : ℕ) (s : StoreStory) (is : IsStoreStory T j s) where
  l : ℕ
  l = line_in T is.what

  own : IsAct T j (Stores (line_in T is.what) is.what)
  own = store-by T is.thread j is.what is.is_store

  by : j ≤ length T.events
  by = (act-within T j (Stores (line_in T is.what) is.what) own).1

  other-of : (k : ℕ) → IsOfOthers s.others k → IsOther T is.thread (line_in T is.what) j k
  other-of k x = (is.others.just k).0 (get-has s.others x.0 k x.1)

  within-story : (k : ℕ) → IsInStoreStory T is.thread (line_in T is.what) j s.others k → k ≤ length T.events
  within-story k (OfStore tells) = tells-within T (length T.events) (line_in T is.what) j k is.what own by tells
  within-story k (OwnFence next unsafe) = (act-within T k (Fences is.thread) next.is_fence).1
  within-story k (OfOthers x) = (turn-within T is.thread (line_in T is.what) k turn.Other (other-of k x).is_flush).1

  by-now : (k : ℕ) → Has s.numbers k → k ≤ length T.events
  by-now k has = within-story k ((is.just k).0 has)

  first-at : s.fate.coming.flush < past_of T → IsFirstFlush T (line_in T is.what) j s.fate.coming.flush
  first-at h = let x = is.fate.coming.flush.has h in record { is_flush = x.1; after = x.0; first = λ m after before flush. is.fate.coming.flush.none_before m before (after, flush) }

  next-fence : s.fate.first < past_of T → IsNextFence T is.thread j s.fate.first
  next-fence h = let x = is.fate.first.has h in record { is_fence = x.1; after = x.0; first = λ m after before fence. is.fate.first.none_before m before (after, fence) }

  pub part-saves : (k : ℕ) → Has s.numbers k → k ≡ s.fate.coming.safe → IsSafeFrom T (line_in T is.what) j k
  part-saves k has e =
      subst (IsSafeFrom T (line_in T is.what) j) (sym e) (told-safe T (line_in T is.what) j (length T.events) is.what s.fate.coming own is.fate.coming (omega (arith, e, by-now k has)))

  pub part-own : (k : ℕ) → s.fate.first < s.fate.coming.safe → k ≡ s.fate.first → IsStorePart T is.thread (line_in T is.what) j part.OwnFence k
  part-own k less e =
      let early : s.fate.first < past_of T = omega (arith, less, is.fate.coming.safe.within) in
      subst (IsStorePart T is.thread (line_in T is.what) j part.OwnFence) (sym e) (next-fence early, unsafe-before T is.thread j is.what s.fate is.is_store is.fate s.fate.first less)

  pub part-flush : (k : ℕ) → Has s.numbers k → k ≡ s.fate.coming.flush → IsFirstFlush T (line_in T is.what) j k
  part-flush k has e = subst (IsFirstFlush T (line_in T is.what) j) (sym e) (first-at (omega (arith, e, by-now k has)))

  pub part-cover : (k : ℕ) → k ≢ s.fate.coming.safe → s.fate.coming.safe ≤ s.end → k ≡ s.fate.coming.cover → IsStorePart T is.thread (line_in T is.what) j part.Cover k
  part-cover k apart early e = go (is.fate.coming.cover (omega (arith, early, is.end)))
    where
      go : IsCompletion T (line_in T is.what) j s.fate.coming.cover s.fate.coming.safe → IsStorePart T is.thread (line_in T is.what) j part.Cover k
      go (OfFence t fence first before) = (
        t,
        s.fate.coming.safe,
        told-safe T (line_in T is.what) j (length T.events) is.what s.fate.coming own is.fate.coming (omega (arith, early, is.end)),
        fence,
        subst (IsFirstFlushBy T t (line_in T is.what) j) (sym e) first,
      )
      go (OfClflush clflush after same) = absurd (apart (e ∙ same))

  pub part-fence : (k : ℕ) → Has s.numbers k → k ≢ s.fate.coming.safe → s.fate.coming.fence ≤ s.fate.coming.safe → s.fate.coming.flush ≤ s.end → k ≡ s.fate.coming.fence →
      IsStorePart T is.thread (line_in T is.what) j part.Fence k
  part-fence k has no_safe late flushed e =
      let y = (is.fate.coming.fence (omega (arith, flushed, is.end))).has (omega (arith, e, by-now k has)) in
      let less : k < s.fate.coming.safe = omega (arith, late, e, no_safe) in (
        s.fate.coming.flush,
        first-at (omega (arith, flushed, is.end)),
        subst (IsFirstFenceAt T s.fate.coming.flush (length T.events)) (sym e) (record {
          thread = (y.1).0;
          is_fence = (y.1).1;
          after = y.0;
          by_now = omega (arith, e, by-now k has);
          none_before = λ m t after before fence. (is.fate.coming.fence (omega (arith, flushed, is.end))).none_before m before (after, (t, fence));
        }),
        unsafe-before T is.thread j is.what s.fate is.is_store is.fate k less,
      )

  same-fence : (k : ℕ) → IsNextFence T is.thread j k → k ≡ s.fate.first
  same-fence k next = elim (cases_lt k s.fate.first) [
    | inl sooner ↦ absurd (is.fate.first.none_before k sooner (next.after, next.is_fence))
    | inr from ↦ elim (cases_lt s.fate.first k) [
      | inl later ↦ let x = is.fate.first.has (omega (arith, later, (act-within T k (Fences is.thread) next.is_fence).1)) in absurd (next.first s.fate.first x.0 later x.1)
      | inr upto ↦ omega (arith, from, upto)
    ]
  ]

  unsafe-sooner : (k : ℕ) → k ≤ length T.events → ¬ IsSafe T (line_in T is.what) k j → k < s.fate.coming.safe
  unsafe-sooner k within unsafe = elim (cases_lt k s.fate.coming.safe) [ inl less ↦ less | inr from ↦ absurd (unsafe (safe-from T is.thread j is.what s.fate is.is_store is.fate k from within)) ]

  -- what tells of a store is not past all of these
  none-of : (k : ℕ) → k ≢ s.store → k ≢ s.fate.coming.safe → k ≢ s.fate.coming.flush → (s.fate.coming.safe ≤ s.end → k ≢ s.fate.coming.cover) →
      (s.fate.coming.fence ≤ s.fate.coming.safe → s.fate.coming.flush ≤ s.end → k ≢ s.fate.coming.fence) → ¬ Tells T (length T.events) (line_in T is.what) j k
  none-of k a b d g h tells = go (tells-coming T (line_in T is.what) j (length T.events) k is.what s.fate.coming own is.fate.coming tells)
    where
      go : IsOfStore j s.fate.coming (length T.events) k → ⊥
      go (TheStore e) = a (e ∙ sym is.store)
      go (TheFlush e) = d e
      go (TheCompletion safe e) = b e
      go (TheCover safe e) = g (omega (arith, safe, is.end)) e
      go (TheFence late flushed e) = h late (omega (arith, flushed, is.end)) e

  pub part-other : (k : ℕ) → Has s.numbers k → k ≢ s.store → k ≢ s.fate.coming.safe → (s.fate.first < s.fate.coming.safe → k ≢ s.fate.first) → k ≢ s.fate.coming.flush →
      (s.fate.coming.safe ≤ s.end → k ≢ s.fate.coming.cover) → (s.fate.coming.fence ≤ s.fate.coming.safe → s.fate.coming.flush ≤ s.end → k ≢ s.fate.coming.fence) → IsOther T is.thread (line_in T is.what) j k
  part-other k has no_store no_safe no_own no_flush no_cover no_fence = go ((is.just k).0 has)
    where
      go : IsInStoreStory T is.thread (line_in T is.what) j s.others k → IsOther T is.thread (line_in T is.what) j k
      go (OfStore tells) = absurd (none-of k no_store no_safe no_flush no_cover no_fence tells)
      go (OwnFence next unsafe) =
          let same = same-fence k next in
          let less = unsafe-sooner k (by-now k has) unsafe in
          absurd (no_own (omega (arith, less, same)) same)
      go (OfOthers x) = other-of k x

  -- what it is not
  no-saves : (k : ℕ) → Has s.numbers k → k ≢ s.fate.coming.safe → ¬ IsSafeFrom T (line_in T is.what) j k
  no-saves k has other from = other (saved-at T (line_in T is.what) j (length T.events) k is.what s.fate.coming own is.fate.coming (by-now k has) from)

  no-flush : (k : ℕ) → Has s.numbers k → k ≢ s.fate.coming.flush → ¬ IsFirstFlush T (line_in T is.what) j k
  no-flush k has other first = other (flushed-at T (line_in T is.what) j (length T.events) k s.fate.coming is.fate.coming (by-now k has) first)

  no-own : (k : ℕ) → Has s.numbers k → (s.fate.first < s.fate.coming.safe → k ≢ s.fate.first) → ¬ IsStorePart T is.thread (line_in T is.what) j part.OwnFence k
  no-own k has other x =
      let same = same-fence k x.0 in
      let less = unsafe-sooner k (by-now k has) x.1 in
      other (omega (arith, less, same)) same

  flush-no-own : (k : ℕ) → IsFlushOf T (line_in T is.what) k → ¬ IsStorePart T is.thread (line_in T is.what) j part.OwnFence k
  flush-no-own k (ByFlush t flush) x = let same = act-unique T k (Flushes t (line_in T is.what)) (Fences is.thread) flush x.0.is_fence in cc
  flush-no-own k (ByClflush flush) x = let same = act-unique T k (Clflushes (line_in T is.what)) (Fences is.thread) flush x.0.is_fence in cc

  fence-no-cover : (k : ℕ) → IsStorePart T is.thread (line_in T is.what) j part.Fence k → ¬ IsStorePart T is.thread (line_in T is.what) j part.Cover k
  fence-no-cover k x y =
      let same = act-unique T k (Flushes y.0 (line_in T is.what)) (Fences x.2.thread) y.4.is_flush x.2.is_fence in
      cc

  -- what it is told to be
  pub told-saves : (k : ℕ) → Has s.numbers k → k ≢ s.store → k ≡ s.fate.coming.safe → IsStoreTold T is.thread (line_in T is.what) j part.Saves k
  told-saves k has a e =
      let from = part-saves k has e in
      inr (λ store. a (store ∙ sym is.store), inr (λ x. x.1 from.safe, inl (refl, from)))

  pub told-own : (k : ℕ) → k ≢ s.store → s.fate.first < s.fate.coming.safe → k ≡ s.fate.first → IsStoreTold T is.thread (line_in T is.what) j part.OwnFence k
  told-own k a less e = inr (λ store. a (store ∙ sym is.store), inl (refl, part-own k less e))

  pub told-flush : (k : ℕ) → Has s.numbers k → k ≢ s.store → k ≢ s.fate.coming.safe → k ≡ s.fate.coming.flush → IsStoreTold T is.thread (line_in T is.what) j part.Flush k
  told-flush k has a b e =
      let first = part-flush k has e in
      inr (λ store. a (store ∙ sym is.store), inr (flush-no-own k first.is_flush, inr (no-saves k has b, inl (refl, first))))

  pub told-cover : (k : ℕ) → Has s.numbers k → k ≢ s.store → k ≢ s.fate.coming.safe → k ≢ s.fate.coming.flush → s.fate.coming.safe ≤ s.end → k ≡ s.fate.coming.cover →
      IsStoreTold T is.thread (line_in T is.what) j part.Cover k
  told-cover k has a b c early e =
      let cover = part-cover k b early e in
      inr (λ store. a (store ∙ sym is.store), inr (flush-no-own k (ByFlush cover.0 cover.4.is_flush), inr (no-saves k has b, inr (no-flush k has c, inl (refl, cover)))))

  pub told-fence : (k : ℕ) → Has s.numbers k → k ≢ s.store → k ≢ s.fate.coming.safe → (s.fate.first < s.fate.coming.safe → k ≢ s.fate.first) → k ≢ s.fate.coming.flush →
      s.fate.coming.fence ≤ s.fate.coming.safe → s.fate.coming.flush ≤ s.end → k ≡ s.fate.coming.fence → IsStoreTold T is.thread (line_in T is.what) j part.Fence k
  told-fence k has a b c d late flushed e =
      let fence = part-fence k has b late flushed e in
      inr (λ store. a (store ∙ sym is.store), inr (no-own k has c, inr (no-saves k has b, inr (no-flush k has d, inr (fence-no-cover k fence, inl (refl, fence))))))

  pub told-other : (k : ℕ) → Has s.numbers k → k ≢ s.store → k ≢ s.fate.coming.safe → (s.fate.first < s.fate.coming.safe → k ≢ s.fate.first) → k ≢ s.fate.coming.flush →
      (s.fate.coming.safe ≤ s.end → k ≢ s.fate.coming.cover) → (s.fate.coming.fence ≤ s.fate.coming.safe → s.fate.coming.flush ≤ s.end → k ≢ s.fate.coming.fence) →
      IsStoreTold T is.thread (line_in T is.what) j part.Other k
  told-other k has a b c d g h =
      inr (λ store. a (store ∙ sym is.store), inr (no-own k has c, inr (no-saves k has b, inr (no-flush k has d, inr (no-cover, inr (no-fence, inl (refl, part-other k has a b c d g h)))))))
    where
      no-cover : ¬ IsStorePart T is.thread (line_in T is.what) j part.Cover k
      no-cover x = none-of k a b d g h (Covers x.0 x.1 (act-within T x.1 (Fences x.0) x.3).1 x.2 x.3 x.4)

      no-fence : ¬ IsStorePart T is.thread (line_in T is.what) j part.Fence k
      no-fence x =
          let sooner = unsafe-sooner k (by-now k has) x.3 in
          none-of k a b d g h (FirstFence x.0 x.1 x.2 (λ p before. unsafe-before T is.thread j is.what s.fate is.is_store is.fate p (omega (arith, before, sooner))))

  -- ---- What is told of it

  pub flush-found : s.fate.coming.flush ≤ s.end → IsFirstFlush T (line_in T is.what) j s.fate.coming.flush
  flush-found by-end = first-at (omega (arith, by-end, is.end))

  pub flush-none : s.end < s.fate.coming.flush → (k : ℕ) → j < k → ¬ IsFlushOf T (line_in T is.what) k
  flush-none past k after flush = is.fate.coming.flush.none_before k (omega (arith, past, is.end, flush-within flush)) (after, flush)
    where
      flush-within : IsFlushOf T (line_in T is.what) k → k ≤ length T.events
      flush-within (ByFlush t at) = (act-within T k (Flushes t (line_in T is.what)) at).1
      flush-within (ByClflush at) = (act-within T k (Clflushes (line_in T is.what)) at).1

  pub safe-told : s.fate.coming.safe ≤ s.end → IsSafe T (line_in T is.what) (length T.events) j
  safe-told by-end = safe-from T is.thread j is.what s.fate is.is_store is.fate (length T.events) (omega (arith, by-end, is.end)) (omega arith)

  pub unsafe-told : s.end < s.fate.coming.safe → ¬ IsSafe T (line_in T is.what) (length T.events) j
  unsafe-told past = unsafe-before T is.thread j is.what s.fate is.is_store is.fate (length T.events) (omega (arith, past, is.end))

-- ---- How it is made

pub store-story-made : (T : Recording) (t j : ℕ) (w : Written) (s : StoreStory) (before chosen : List Bool) → IsStoreBy T t w j → s.store ≡ j → s.end ≡ length T.events → IsFate T t w j s.fate → AreOthers T t (line_in T w) j s.others →
    IsRising 0 s.numbers → ((k : ℕ) → Has s.numbers k ↔ IsChosen chosen k) → ((k : ℕ) → IsChosen before k → ⊥) → length before ≡ length T.events → Chooses (IsOfStory j s.fate s.others (length before)) before chosen → IsStoreStory T j s
store-story-made T t j w s before chosen is store end fate others rising just none size c = record {
  thread = t;
  what = w;
  is_store = is;
  store = store;
  end = end;
  fate = fate;
  others = others;
  rising = rising;
  just = λ k. (λ has. there k ((just k).0 has), λ x. (just k).1 (back k x));
}
  where
    own : IsAct T j (Stores (line_in T w) w)
    own = store-by T t j w is

    there : (k : ℕ) → IsChosen chosen k → IsInStoreStory T t (line_in T w) j s.others k
    there k at = elim (c.just k at) [
      | inl old ↦ absurd (none k old)
      | inr new ↦ elim new [
        | inl of ↦
            OfStore (coming-tells T (line_in T w) j (length T.events) k w s.fate.coming own fate.coming (omega (arith, (chosen-within chosen k at).1, c.size, size)) (subst (λ m. IsOfStore j s.fate.coming m k) size of))
        | inr rest ↦ elim rest [
          | inl x ↦
              let y = fate.first.has (omega (arith, x.0, fate.coming.safe.within)) in
              subst (IsInStoreStory T t (line_in T w) j s.others) (sym x.1)
              (OwnFence (record { is_fence = y.1; after = y.0; first = λ m after sooner fence. fate.first.none_before m sooner (after, fence) }) (unsafe-before T t j w s.fate is fate s.fate.first x.0))
          | inr x ↦ OfOthers x
        ]
      ]
    ]

    by : j ≤ length T.events
    by = (act-within T j (Stores (line_in T w) w) own).1

    other-of : (k : ℕ) → IsOfOthers s.others k → IsOther T t (line_in T w) j k
    other-of k x = (others.just k).0 (get-has s.others x.0 k x.1)

    same-first : (k : ℕ) → IsNextFence T t j k → k ≡ s.fate.first
    same-first k next = elim (cases_lt k s.fate.first) [
      | inl sooner ↦ absurd (fate.first.none_before k sooner (next.after, next.is_fence))
      | inr from ↦ elim (cases_lt s.fate.first k) [
        | inl later ↦ let x = fate.first.has (omega (arith, later, (act-within T k (Fences t) next.is_fence).1)) in absurd (next.first s.fate.first x.0 later x.1)
        | inr upto ↦ omega (arith, from, upto)
      ]
    ]

    back : (k : ℕ) → IsInStoreStory T t (line_in T w) j s.others k → IsChosen chosen k
    back k (OfStore tells) =
        c.own k (tells-some T (length T.events) (line_in T w) j k w own tells) (omega (arith, tells-within T (length T.events) (line_in T w) j k w own by tells, size))
        (inl (subst (λ m. IsOfStore j s.fate.coming m k) (sym size) (tells-coming T (line_in T w) j (length T.events) k w s.fate.coming own fate.coming tells)))
    back k (OwnFence next unsafe) =
        let within = (act-within T k (Fences t) next.is_fence).1 in
        let same = same-first k next in
        let less : k < s.fate.coming.safe = elim (cases_lt k s.fate.coming.safe) [ inl sooner ↦ sooner | inr from ↦ absurd (unsafe (safe-from T t j w s.fate is fate k from within)) ] in
        c.own k (omega (arith, next.after)) (omega (arith, within, size)) (inr (inl (omega (arith, less, same), same)))
    back k (OfOthers x) =
        let within = turn-within T t (line_in T w) k turn.Other (other-of k x).is_flush in
        c.own k within.0 (omega (arith, within.1, size)) (inr (inr x))
