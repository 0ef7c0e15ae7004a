-- What is kept of a trace, and of the trace cut to a part.
use Rattle.pmt_part_laws.proofs.Prelude.{◌≡◌, ℕ, zero, suc, ◌-◌, ◌<◌, ◌≤◌, inl, inr, List, length, refl, sym, ap, subst, ◌∙◌, arith, ◌⊎◌, ◌↔◌, cases_lt, Act, Stores, Flushes, Clflushes, Fences, Asserts, Recording, IsAct, history, count_at, front_at, Has, cut, matching_place, history-step, front-mono, has-above, place-kept, IsSubsequence, kept-act, IsOrigin, act-origin, placed-later, later-origin, IsPart, IsDecidedBy, PartKeeps}
use Rattle.pmt_model.specs.Keeping.{IsKept, Stays, ByFlush}
use Rattle.pmt_laws.proofs.NeededFlushes.{IsNeededFlush, kept-needed}
use Rattle.pmt_laws.proofs.PassLemmas.{fence_is_kept, clflush_is_kept}
use Rattle.pmt_part_laws.proofs.StepLemmas.{part-subsequence, has-stretch, part-by}
use Rattle.pmt_part_laws.proofs.FrontLemmas.{count-part, front-part}
use Rattle.pmt_part_laws.proofs.OriginLemmas.{fence-kept, again-kept, late-fence, late-clflush}

-- a front rises at an event of the stretch exactly if it does so in the part
rises-same : (T : Recording) (q r : ℕ) (K : List ℕ) (l n : ℕ) → IsPart T q r K → q ≤ n → suc n ≤ r →
    (front_at T l n < front_at T l (suc n)) ↔ (front_at (cut T K) l (matching_place K n) < front_at (cut T K) l (suc (matching_place K n)))
rises-same T q r K l n part after within =
    let has = has-stretch T q r K (suc n) part (omega (arith, after)) within in
    let before = front-part T q r K l n part (omega arith) in
    let now = ap (front_at (cut T K) l) (sym (place-kept K n part.rising has)) ∙ front-part T q r K l (suc n) part within in (
      λ rises. omega (arith, rises, before, now, front-mono T l q n after),
      λ rises. omega (arith, rises, before, now, front-mono T l q n after),
    )

-- the matching place of an event of the part is the one after that of the place before it
kept-at : (T : Recording) (q r : ℕ) (K : List ℕ) (n : ℕ) → IsPart T q r K → Has K (suc n) → IsKept (cut T K) (matching_place K (suc n)) ↔ IsKept (cut T K) (suc (matching_place K n))
kept-at T q r K n part has =
    let e = place-kept K n part.rising has in
    (λ kept. subst (IsKept (cut T K)) e kept, λ kept. subst (IsKept (cut T K)) (sym e) kept)

fence-keeps : (T : Recording) (q r : ℕ) (K : List ℕ) (t n : ℕ) → IsPart T q r K → Has K (suc n) → suc n ≤ r → IsAct T (suc n) (Fences t) → IsKept T (suc n) ↔ IsKept (cut T K) (matching_place K (suc n))
fence-keeps T q r K t n part has within is =
    let after : q ≤ n = omega (arith, late-fence T q r K t (suc n) part has is) in
    let own : IsAct (cut T K) (suc (matching_place K n)) (Fences t) = subst (λ m. IsAct (cut T K) m (Fences t)) (place-kept K n part.rising has) (kept-act T K (suc n) (Fences t) (part-subsequence T q r K part) has is) in
    let whole_law = fence_is_kept T t n is in
    let own_law = fence_is_kept (cut T K) t (matching_place K n) own in (
      λ kept. let x = whole_law.0 kept in (kept-at T q r K n part has).1 (own_law.1 (x.0, (rises-same T q r K x.0 n part after within).0 x.1)),
      λ kept. let x = own_law.0 ((kept-at T q r K n part has).0 kept) in whole_law.1 (x.0, (rises-same T q r K x.0 n part after within).1 x.1),
    )

clflush-keeps : (T : Recording) (q r : ℕ) (K : List ℕ) (l n : ℕ) → IsPart T q r K → Has K (suc n) → suc n ≤ r → IsAct T (suc n) (Clflushes l) → IsKept T (suc n) ↔ IsKept (cut T K) (matching_place K (suc n))
clflush-keeps T q r K l n part has within is =
    let after : q ≤ n = omega (arith, late-clflush T q r K l (suc n) part has is) in
    let own : IsAct (cut T K) (suc (matching_place K n)) (Clflushes l) = subst (λ m. IsAct (cut T K) m (Clflushes l)) (place-kept K n part.rising has) (kept-act T K (suc n) (Clflushes l) (part-subsequence T q r K part) has is) in
    let whole_law = clflush_is_kept T l n is in
    let own_law = clflush_is_kept (cut T K) l (matching_place K n) own in
    let counts = count-part T q r K l n part (omega arith) in
    let fronts = front-part T q r K l n part (omega arith) in (
      λ kept. (kept-at T q r K n part has).1 (own_law.1 (omega (arith, whole_law.0 kept, counts, fronts, front-mono T l q n after))),
      λ kept. whole_law.1 (omega (arith, own_law.0 ((kept-at T q r K n part has).0 kept), counts, fronts)),
    )

-- a flush that its thread's next fence needs
flush-keeps : (T : Recording) (q r : ℕ) (K : List ℕ) (t l k : ℕ) → IsPart T q r K → Has K k → k ≤ r → IsDecidedBy T r k → IsAct T k (Flushes t l) → IsKept T k ↔ IsKept (cut T K) (matching_place K k)
flush-keeps T q r K t l k part has within decided is = (λ kept. there (kept-needed T t l k kept is), λ kept. back (kept-needed (cut T K) t l (matching_place K k) kept own))
  where
    s : IsSubsequence T K
    s = part-subsequence T q r K part

    own : IsAct (cut T K) (matching_place K k) (Flushes t l)
    own = kept-act T K k (Flushes t l) s has is

    there : IsNeededFlush T t l k → IsKept (cut T K) (matching_place K k)
    there needed = ByFlush (record {
      thread = t;
      line = l;
      fence = matching_place K (suc m);
      is_flush = own;
      is_fence = kept-act T K (suc m) (Fences t) s chosen.1 needed.is_fence;
      later = placed-later T K k (suc m) s chosen.1 needed.later;
      next_fence = λ j later before fence.
          let o = act-origin T K j (Fences t) s fence in
          needed.next_fence o.number (later-origin K k o.number (omega (arith, later, o.place))) (later-origin K o.number (suc m) (omega (arith, before, o.place))) o.is_act;
      last_flush = λ j later before flush.
          let o = act-origin T K j (Flushes t l) s flush in
          needed.last_flush o.number (later-origin K k o.number (omega (arith, later, o.place))) (later-origin K o.number (suc m) (omega (arith, before, o.place))) o.is_act;
      needed = rw before (omega (arith, needed.needed, count-part T q r K l k part within, front-part T q r K l m part (omega (arith, by)), front-mono T l q m (omega (arith, chosen.0))));
    })
      where
        m : ℕ
        m = needed.before

        -- the next fence is no later than the one by which the flush is decided
        by : suc m ≤ r
        by =
            let fence = decided.fenced t l is in
            elim (cases_lt fence.0 (suc m)) [ inl early ↦ absurd (needed.next_fence fence.0 fence.1 early fence.3) | inr late ↦ omega (arith, late, fence.2) ]

        chosen : (q < suc m) × Has K (suc m)
        chosen = fence-kept T q r K t l k (suc m) part has is needed.later by needed.is_fence

        before : matching_place K (suc m) - 1 ≡ matching_place K m
        before = omega (arith, place-kept K m part.rising chosen.1)

    back : IsNeededFlush (cut T K) t l (matching_place K k) → IsKept T k
    back needed = go o.number refl
      where
        o : IsOrigin T K (suc needed.before) (Fences t)
        o = act-origin T K (suc needed.before) (Fences t) s needed.is_fence

        later : k < o.number
        later = later-origin K k o.number (omega (arith, needed.later, o.place))

        go : (f : ℕ) → o.number ≡ f → IsKept T k
        go zero e = absurd (omega (arith, later, e))
        go (suc m) e = ByFlush (record {
          thread = t;
          line = l;
          fence = suc m;
          is_flush = is;
          is_fence = fence;
          later = omega (arith, later, e);
          next_fence = λ j more before other.
              let chosen = (fence-kept T q r K t l k j part has is more (omega (arith, before, by)) other).1 in
              needed.next_fence (matching_place K j) (placed-later T K k j s chosen more) (omega (arith, placed-later T K j (suc m) s has_fence before, place)) (kept-act T K j (Fences t) s chosen other);
          last_flush = λ j more before other.
              let chosen = (again-kept T q r K t l k j part has is more (omega (arith, before, by)) other).1 in
              needed.last_flush (matching_place K j) (placed-later T K k j s chosen more) (omega (arith, placed-later T K j (suc m) s has_fence before, place)) (kept-act T K j (Flushes t l) s chosen other);
          needed = rw before (omega (arith, below, count-part T q r K l k part within, front-part T q r K l m part (omega (arith, by))));
        })
          where
            fence : IsAct T (suc m) (Fences t)
            fence = subst (λ i. IsAct T i (Fences t)) e o.is_act

            has_fence : Has K (suc m)
            has_fence = subst (Has K) e o.chosen

            place : matching_place K (suc m) ≡ suc needed.before
            place = ap (matching_place K) (sym e) ∙ o.place

            by : suc m ≤ r
            by = part-by T q r K (suc m) part has_fence

            before : suc m - 1 ≡ m
            before = omega arith

            at : needed.before ≡ matching_place K m
            at = omega (arith, place, place-kept K m part.rising has_fence)

            below : front_at (cut T K) l (matching_place K m) < count_at (cut T K) l (matching_place K k)
            below = subst (λ i. front_at (cut T K) l i < count_at (cut T K) l (matching_place K k)) at needed.needed

pub part_keeps : PartKeeps
part_keeps T q r K zero part has within decided = let above : 0 < 0 = has-above 0 K 0 part.rising has in absurd (omega (arith, above))
part_keeps T q r K (suc n) part has within decided = go (history-step T n)
  where
    s : IsSubsequence T K
    s = part-subsequence T q r K part

    go : ((a : Act) × IsAct T (suc n) a) ⊎ ((length T.events ≤ n) × (history T (suc n) ≡ history T n)) → IsKept T (suc n) ↔ IsKept (cut T K) (matching_place K (suc n))
    go (inr x) = absurd (omega (arith, x.0, within, part.within))
    go (inl (Stores l w, is)) = (λ kept. Stays (Stores l w) (kept-act T K (suc n) (Stores l w) s has is) refl, λ kept. Stays (Stores l w) is refl)
    go (inl (Flushes t l, is)) = flush-keeps T q r K t l (suc n) part has within decided is
    go (inl (Clflushes l, is)) = clflush-keeps T q r K l n part has within is
    go (inl (Fences t, is)) = fence-keeps T q r K t n part has within is
    go (inl (Asserts, is)) = (λ kept. Stays Asserts (kept-act T K (suc n) Asserts s has is) refl, λ kept. Stays Asserts is refl)
