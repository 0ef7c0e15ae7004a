-- The list of the events that are kept: there is one, it is a selection, and it has the fronts of the trace at each place.
use Rattle.std.proofs.Common.{◌≡◌, ℕ, zero, suc, ◌-◌, ◌<◌, ◌≤◌, ◌⊎◌, ◌==◌, ◌&&◌, Bool, true, false, if◌then◌else◌, List, [], ◌∷◌, length, refl, sym, ◌∙◌, ap, ap₂, subst, inl, inr, ⊎_elim, arith}
use Rattle.std.proofs.lemmas.Bool.{cases_eq, cases_lt, cond-false, ne_eqb}
use Rattle.std.proofs.lemmas.Bool.Decides.{nat_tests}
use Rattle.pmt_laws.specs.Prelude.{Act, Flushes, Clflushes, Fences, count, Recording, IsAct, history, count_at, front, mark, front_at, IsRising, Has, IsSelection, cut, matching_place}
use Rattle.pmt_model.specs.Keeping.{IsUsefulFlush, IsKept, Stays, ByFence, ByFlush, ByClflush, IsKeep}
use Rattle.pmt_laws.specs.ModelLaws.{VectorsAreABox, KeepIsUnique, KeepIsFaithful}
use Rattle.pmt_laws.proofs.Histories.{act-within, history-act, front-grows, front-mono}
use Rattle.pmt_laws.proofs.CutLemmas.{IsNext, Keeps, Drops, Ended, next-step, has-above, place-kept, place-mono, cut-act, history-zero, count-cut}
use Rattle.pmt_laws.proofs.OutstandingFlushes.{mark-grows}
use Rattle.pmt_laws.proofs.FrontLemmas.{mark-greatest, completed-le_front}
use Rattle.pmt_laws.proofs.LastFlushes.{IsLastFlush, last-flush}
use Rattle.pmt_laws.proofs.FaithfulLemmas.{fronts_decide}

-- Rising lists of the same numbers are equal.
rising-unique : (low : ℕ) (K J : List ℕ) → IsRising low K → IsRising low J → ((n : ℕ) → Has K n → Has J n) → ((n : ℕ) → Has J n → Has K n) → K ≡ J
rising-unique low [] [] r q there back = refl
rising-unique low [] (j ∷ js) r q there back = absurd (back j (inl refl))
rising-unique low (k ∷ ks) [] r q there back = absurd (there k (inl refl))
rising-unique low (k ∷ ks) (j ∷ js) r q there back =
    ap₂ (λ x xs. x ∷ xs) e (rising-unique k ks js r.1 tail_rising further backward)
  where
    at_most : (m : ℕ) (ms : List ℕ) (n : ℕ) → IsRising m ms → Has (m ∷ ms) n → m ≤ n
    at_most m ms n rises (inl same) = omega arith
    at_most m ms n rises (inr h) = let above : m < n = has-above m ms n rises h in omega arith

    e : k ≡ j
    e = let up : j ≤ k = at_most j js k q.1 (there k (inl refl)) in
        let down : k ≤ j = at_most k ks j r.1 (back j (inl refl)) in
        omega arith

    tail_rising : IsRising k js
    tail_rising = let P : ℕ → Type 0 = λ m. IsRising m js in subst P (sym e) q.1

    in_tail : (m : ℕ) (ms : List ℕ) (n : ℕ) → m < n → Has (m ∷ ms) n → Has ms n
    in_tail m ms n lt (inl same) = absurd (omega arith)
    in_tail m ms n lt (inr h) = h

    further : (n : ℕ) → Has ks n → Has js n
    further n h = let above : k < n = has-above k ks n r.1 h in in_tail j js n (omega (arith, e)) (there n (inr h))

    backward : (n : ℕ) → Has js n → Has ks n
    backward n h = let above : j < n = has-above j js n q.1 h in in_tail k ks n (omega (arith, e)) (back n (inr h))

-- There is one list of the events that are kept.
pub keep_is_unique : KeepIsUnique
keep_is_unique T K J k j =
    rising-unique 0 K J k.rising j.rising (λ n h. (j.just n).1 ((k.just n).0 h)) (λ n h. (k.just n).1 ((j.just n).0 h))

-- What is kept is an event.
kept-within : (T : Recording) (i : ℕ) → IsKept T i → i ≤ length T.events
kept-within T i (Stays a is stays) = (act-within T i a is).1
kept-within T i (ByFence u) = (act-within T i (Fences u.thread) u.is_fence).1
kept-within T i (ByFlush u) = (act-within T i (Flushes u.thread u.line) u.is_flush).1
kept-within T i (ByClflush u) = (act-within T i (Clflushes u.line) u.is_clflush).1

-- The list of the events that are kept is a selection.
pub keep_is_selection : (T : Recording) (K : List ℕ) → IsKeep T K → IsSelection T K
keep_is_selection T K k = record {
  rising = k.rising;
  within = λ i h. kept-within T i ((k.just i).0 h);
  whole = λ i a is stays. (k.just i).1 (Stays a is stays);
}

-- The mark of a flush.
mark-same : (t l u k c d m n : ℕ) → c ≤ d → m ≤ n → (if (u == t) && (k == l) then c else m) ≤ (if (u == t) && (k == l) then d else n)
mark-same t l u k c d m n h g = go ((u == t) && (k == l))
  where
    go : (b : Bool) → (if b then c else m) ≤ (if b then d else n)
    go true = h
    go false = g

-- One more act of both keeps a mark at most the other.
mark-kept : (t l : ℕ) (a : Act) (g h : List Act) → count l g ≡ count l h → mark t l g ≤ mark t l h → mark t l (a ∷ g) ≤ mark t l (a ∷ h)
mark-kept t l (Flushes u k) g h e le = mark-same t l u k (count l g) (count l h) (mark t l g) (mark t l h) (omega arith) le
mark-kept t l a g h e le = le

-- The marks of the cut are at most those of the trace.
pub mark-cut-le : (T : Recording) (K : List ℕ) (t l n : ℕ) → IsSelection T K → mark t l (history (cut T K) (matching_place K n)) ≤ mark t l (history T n)
mark-cut-le T K t l zero s = rw (history-zero T K s) (omega arith)
mark-cut-le T K t l (suc nn) s = grind (arith, nat_tests, history-zero, next-step, mark-kept, count-cut, mark-grows, mark-cut-le T K t l nn s)

-- One more act of both keeps a front at most the other.
front-kept : (l : ℕ) (a : Act) (g h : List Act) → count l g ≡ count l h → ((t : ℕ) → mark t l g ≤ mark t l h) → front l g ≤ front l h → front l (a ∷ g) ≤ front l (a ∷ h)
front-kept l a g h e marks le = grind (arith, nat_tests)

-- The fronts of a cut are at most those of the trace, whatever is selected.
pub cut-front-le : (T : Recording) (K : List ℕ) (l n : ℕ) → IsSelection T K → front_at (cut T K) l (matching_place K n) ≤ front_at T l n
cut-front-le T K l zero s = rw (history-zero T K s) (omega arith)
cut-front-le T K l (suc nn) s = grind (arith, nat_tests, history-zero, next-step, front-kept, count-cut, mark-cut-le, front-grows, cut-front-le T K l nn s)

-- An event that changes a front is kept.
pub raising-is-kept : (T : Recording) (l n : ℕ) (a : Act) → IsAct T (suc n) a → (front_at T l (suc n) ≡ front_at T l n → ⊥) → IsKept T (suc n)
raising-is-kept T l n (Flushes u k) is changes = absurd (changes (ap (front l) (history-act T n (Flushes u k) is)))
raising-is-kept T l n (Clflushes k) is changes = go (cases_eq k l)
  where
    go : (k ≡ l) ⊎ (k ≡ l → ⊥) → IsKept T (suc n)
    go (inl e) = ByClflush (record {
      line = l;
      is_clflush = (is.0, is.1, is.2 ∙ ap Clflushes e);
      raises = let before : suc n - 1 ≡ n = omega arith in λ same. changes (same ∙ ap (front_at T l) before);
    })
    go (inr apart) = absurd (changes (ap (front l) (history-act T n (Clflushes k) is) ∙ cond-false (k == l) (count l (history T n)) (front l (history T n)) (ne_eqb k l apart)))
raising-is-kept T l n (Fences t) is changes = ByFence (record {
  thread = t;
  line = l;
  is_fence = is;
  raises = let before : suc n - 1 ≡ n = omega arith in λ same. changes (same ∙ ap (front_at T l) before);
})
raising-is-kept T l n a is changes = Stays a is refl

-- A fence persists what its thread's flushes before it mark.
pub front-at_fence : (T : Recording) (t l i k : ℕ) → IsAct T i (Flushes t l) → IsAct T k (Fences t) → i < k → count_at T l i ≤ front_at T l k
front-at_fence T t l i k flush fence h =
    completed-le_front T l k (count_at T l i) (inl (record { thread = t; flush = i; fence = k; is_flush = flush; is_fence = fence; later = h; by_now = omega arith; stores = refl }))

-- A fence that raises a front does so through a useful flush.
pub needed-flush : (T : Recording) (t l n : ℕ) → IsAct T (suc n) (Fences t) → front_at T l n < mark t l (history T n) →
    (i : ℕ) × IsUsefulFlush T i × IsLastFlush T t l n i
needed-flush T t l n fence raises = go (last-flush T t l n)
  where
    go : (mark t l (history T n) ≡ 0) ⊎ ((i : ℕ) × IsLastFlush T t l n i) → (i : ℕ) × IsUsefulFlush T i × IsLastFlush T t l n i
    go (inl e) = absurd (omega arith)
    go (inr (i, last)) = (
      i,
      record {
        thread = t;
        line = l;
        fence = suc n;
        is_flush = last.is_flush;
        is_fence = fence;
        later = let h : i ≤ n = last.by_now in omega arith;
        next_fence = λ k after before is.
            let up : count_at T l i ≤ front_at T l k = front-at_fence T t l i k last.is_flush is after in
            let on : front_at T l k ≤ front_at T l n = front-mono T l k n (omega arith) in
            omega (arith, last.stores);
        last_flush = λ k after before is. last.none_later k after (omega arith) is;
        needed = let e : suc n - 1 ≡ n = omega arith in rw e (omega (arith, last.stores));
      },
      last,
    )

-- In a cut that has the flush, the mark is at least the number of stores before it.
pub mark-from_kept : (T : Recording) (K : List ℕ) (t l i n : ℕ) → IsSelection T K → IsAct T i (Flushes t l) → Has K i → i ≤ n →
    count_at T l i ≤ mark t l (history (cut T K) (matching_place K n))
mark-from_kept T K t l zero n s is has h = omega arith
mark-from_kept T K t l (suc m) n s is has h =
    let place = place-kept K m s.rising has in
    let within : matching_place K (suc m) ≤ matching_place K n = place-mono K (suc m) n h in
    let up : count_at (cut T K) l (suc (matching_place K m)) ≤ mark t l (history (cut T K) (matching_place K n)) =
    mark-greatest (cut T K) t l (suc (matching_place K m)) (matching_place K n) (cut-act T K m (Flushes t l) s has is) (omega arith) in
    let same : count_at (cut T K) l (suc (matching_place K m)) ≡ count_at T l (suc m) = ap (count_at (cut T K) l) (sym place) ∙ count-cut T K l (suc m) s in
    omega arith

-- One more kept act keeps the front of the cut at least that of the trace.
kept-front : (T : Recording) (K : List ℕ) (l n : ℕ) (a : Act) → IsKeep T K → IsAct T (suc n) a → front_at T l n ≤ front_at (cut T K) l (matching_place K n) →
    front l (a ∷ history T n) ≤ front l (a ∷ history (cut T K) (matching_place K n))
kept-front T K l n (Clflushes k) keep is le = go (k == l)
  where
    go : (b : Bool) → (if b then count_at T l n else front_at T l n) ≤ (if b then count_at (cut T K) l (matching_place K n) else front_at (cut T K) l (matching_place K n))
    go true = omega (arith, count-cut T K l n (keep_is_selection T K keep))
    go false = le
kept-front T K l n (Fences t) keep is le =
    ⊎_elim
    (λ (raises : front_at T l n < mark t l (history T n)).
    let flush = needed-flush T t l n is raises in
    let up : count_at T l flush.0 ≤ mark t l (history (cut T K) (matching_place K n)) =
    mark-from_kept T K t l flush.0 n (keep_is_selection T K keep) flush.2.is_flush ((keep.just flush.0).1 (ByFlush flush.1)) flush.2.by_now in
    omega (arith, flush.2.stores))
    (λ (no_more : mark t l (history T n) ≤ front_at T l n). omega arith)
    (cases_lt (front_at T l n) (mark t l (history T n)))
kept-front T K l n a keep is le = le

-- The fronts of the kept events are at least those of the trace.
keep-front-ge : (T : Recording) (K : List ℕ) (l n : ℕ) → IsKeep T K → front_at T l n ≤ front_at (cut T K) l (matching_place K n)
keep-front-ge T K l zero keep = omega arith
keep-front-ge T K l (suc n) keep = go (next-step T K n (keep_is_selection T K keep)) (keep-front-ge T K l n keep)
  where
    go : IsNext T K n → front_at T l n ≤ front_at (cut T K) l (matching_place K n) → front_at T l (suc n) ≤ front_at (cut T K) l (matching_place K (suc n))
    go (Keeps a is has whole part) le = rw (whole, part) (kept-front T K l n a keep is le)
    go (Drops a is has free whole part) le =
        ⊎_elim
        (λ (same : front_at T l (suc n) ≡ front_at T l n). rw part (omega arith))
        (λ (changes : front_at T l (suc n) ≡ front_at T l n → ⊥). absurd (has ((keep.just (suc n)).1 (raising-is-kept T l n a is changes))))
        (cases_eq (front_at T l (suc n)) (front_at T l n))
    go (Ended whole part) le = rw (whole, part) le

-- The kept events have the fronts of the trace.
pub keep_fronts : (T : Recording) (K : List ℕ) (l n : ℕ) → IsKeep T K → front_at T l n ≡ front_at (cut T K) l (matching_place K n)
keep_fronts T K l n keep =
    let up : front_at T l n ≤ front_at (cut T K) l (matching_place K n) = keep-front-ge T K l n keep in
    let down : front_at (cut T K) l (matching_place K n) ≤ front_at T l n = cut-front-le T K l n (keep_is_selection T K keep) in
    omega arith

-- The kept events are faithful at every place.
pub keep_is_faithful : VectorsAreABox → KeepIsFaithful
keep_is_faithful box T K n keep = fronts_decide box T K n (keep_is_selection T K keep) (λ l. keep_fronts T K l n keep)
