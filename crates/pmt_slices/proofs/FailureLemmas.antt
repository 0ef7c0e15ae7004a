-- The crash that violates an assertion, in the trace and in the assertion's slice.
use Rattle.pmt_slices.proofs.Prelude.{◌≡◌, ℕ, ◌<◌, ◌≤◌, ◌==◌, inl, inr, Bool, true, false, List, Option, Some, None, refl, sym, ap, subst, ◌∙◌, arith, ◌↔◌, if◌then◌else◌, MatchOption, cases_lt, Written, Span, Event, Op, IsPersist, IsOrderedBefore, Stores, Recording, IsAct, act, event, count_at, front_at, Has, cut, matching_place, option_map, ByteStore, Failure, persisted_at, IsLost, IsNoLater, IsFirstLost, IsPersistFailure, IsOrderedFailure, IsFailureOf, IsFailureAt, act-unique, act-within, count-mono, last_store_number-is, rank-above, safe_store_at, IsLast, front-below, IsSubsequence, HasGrounds, TheAssertion, IsRangeOf, IsSlice, store_in, failure_in, SliceFails}
use Rattle.pmt_explain.specs.Prelude.{IsLastIn}
use Rattle.pmt_slices.proofs.CuttingLemmas.{kept-event, kept-act, placed-later, later-origin, last-kept, last-from}
use Rattle.pmt_slices.proofs.VerdictLemmas.{grounds-safe}
use Rattle.pmt_slices.proofs.SliceLemmas.{range-within, slice-subsequence, slice-grounds, persist-range, first-range, second-range}

-- a last store to a byte of the range, by its line
pub line-last : (T : Recording) (n : ℕ) (A : Span) (x : ByteStore) → IsLastIn T n A x → (l : ℕ) × IsLast T n A l x.store
line-last T n A x it =
    let writer = last_store_number-is T x.byte n x.store it.last in
    (writer.line, record { what = writer.what; is_store = writer.is_store; byte = x.byte; within = it.inside; last = it.last })

-- it comes after a place exactly where more stores of its line come by it
rank-later : (T : Recording) (l m j : ℕ) (w : Written) → IsAct T j (Stores l w) → (count_at T l m < count_at T l j) ↔ (m < j)
rank-later T l m j w is = (
  λ more. elim (cases_lt m j) [ inl before ↦ before | inr after ↦ absurd (omega (arith, more, count-mono T l j m after)) ],
  λ before. rank-above T l m j w is before,
)

module _ (T : Recording) (n : ℕ) (K : List ℕ) (A : Span) (slice : IsSlice T n K) (range : IsRangeOf T n A) where
  s : IsSubsequence T K
  s = slice-subsequence T n K slice (range-within T n A range)

  grounds : HasGrounds T (Has K) n A
  grounds = slice-grounds T n K A slice range

  -- the last stores to bytes are those of the slice
  last-in : (x : ByteStore) → IsLastIn T n A x → Has K x.store × IsLastIn (cut T K) (matching_place K n) A (store_in K x)
  last-in x it =
      let chosen = grounds.stores (line-last T n A x it).0 x.store (line-last T n A x it).1 in
      (chosen, record { inside = it.inside; last = last-kept T K x.byte n x.store s chosen it.last })

  last-of : (z : ByteStore) → IsLastIn (cut T K) (matching_place K n) A z → (j : ℕ) × IsLastIn T n A (record { store = j; byte = z.byte }) × (matching_place K j ≡ z.store)
  last-of z it =
      let from = last-from T K z.byte n z.store s (λ j is. (last-in (record { store = j; byte = z.byte }) (record { inside = it.inside; last = is })).0) it.last in
      (from.0, record { inside = it.inside; last = from.1 }, from.2)

  -- a last store that is not safe at a place is not so in the slice
  below-same : (l j m : ℕ) → IsLast T n A l j → m ≤ n → (front_at T l m < count_at T l j) ↔ (front_at (cut T K) l (matching_place K m) < count_at (cut T K) l (matching_place K j))
  below-same l j m it by = (
    λ below. there.1 (later ((own.0) below)),
    λ below. own.1 (earlier (there.0 below)),
  )
    where
      own : (front_at T l m < count_at T l j) ↔ (safe_store_at T l m < j)
      own = front-below T l m j it.what it.is_store

      there : (front_at (cut T K) l (matching_place K m) < count_at (cut T K) l (matching_place K j)) ↔ (safe_store_at (cut T K) l (matching_place K m) < matching_place K j)
      there = front-below (cut T K) l (matching_place K m) (matching_place K j) it.what (kept-act T K j (Stores l it.what) s (grounds.stores l j it) it.is_store)

      safe : (j ≤ safe_store_at T l m) ↔ (matching_place K j ≤ safe_store_at (cut T K) l (matching_place K m))
      safe = grounds-safe T K n m A l j s grounds by it

      later : safe_store_at T l m < j → safe_store_at (cut T K) l (matching_place K m) < matching_place K j
      later less = elim (cases_lt (safe_store_at (cut T K) l (matching_place K m)) (matching_place K j)) [ inl below ↦ below | inr above ↦ absurd (omega (arith, less, safe.1 above)) ]

      earlier : safe_store_at (cut T K) l (matching_place K m) < matching_place K j → safe_store_at T l m < j
      earlier less = elim (cases_lt (safe_store_at T l m) j) [ inl below ↦ below | inr above ↦ absurd (omega (arith, less, safe.0 above)) ]

  -- nor is what a crash loses, with all stores to a line persisted
  missing-same : (l j m : ℕ) (full : Option ℕ) → IsLast T n A l j → m ≤ n →
      (persisted_at T m full l < count_at T l j) ↔ (persisted_at (cut T K) (matching_place K m) full l < count_at (cut T K) l (matching_place K j))
  missing-same l j m None it by = below-same l j m it by
  missing-same l j m (Some k) it by = go (l == k)
    where
      own : (count_at T l m < count_at T l j) ↔ (m < j)
      own = rank-later T l m j it.what it.is_store

      there : (count_at (cut T K) l (matching_place K m) < count_at (cut T K) l (matching_place K j)) ↔ (matching_place K m < matching_place K j)
      there = rank-later (cut T K) l (matching_place K m) (matching_place K j) it.what (kept-act T K j (Stores l it.what) s (grounds.stores l j it) it.is_store)

      go : (t : Bool) → ((if t then count_at T l m else front_at T l m) < count_at T l j) ↔
          ((if t then count_at (cut T K) l (matching_place K m) else front_at (cut T K) l (matching_place K m)) < count_at (cut T K) l (matching_place K j))
      go true = (λ more. there.1 (placed-later T K m j s (grounds.stores l j it) (own.0 more)), λ more. own.1 (later-origin K m j (there.0 more)))
      go false = below-same l j m it by

  lost-same : (l j m : ℕ) (full : Option ℕ) → IsLast T n A l j → m ≤ n → IsLost T m full j ↔ IsLost (cut T K) (matching_place K m) full (matching_place K j)
  lost-same l j m full it by = (
    λ lost.
        let same = act-unique T j (Stores lost.line lost.what) (Stores l it.what) lost.is_store it.is_store in
        let line : lost.line ≡ l = cc in
        record { line = l; what = it.what; is_store = here; missing = (missing-same l j m full it by).0 (subst (λ k. persisted_at T m full k < count_at T k j) line lost.missing) },
    λ lost.
        let same = act-unique (cut T K) (matching_place K j) (Stores lost.line lost.what) (Stores l it.what) lost.is_store here in
        let line : lost.line ≡ l = cc in
        record {
          line = l;
          what = it.what;
          is_store = it.is_store;
          missing = (missing-same l j m full it by).1 (subst (λ k. persisted_at (cut T K) (matching_place K m) full k < count_at (cut T K) k (matching_place K j)) line lost.missing);
        },
  )
    where
      here : IsAct (cut T K) (matching_place K j) (Stores l it.what)
      here = kept-act T K j (Stores l it.what) s (grounds.stores l j it) it.is_store

  -- the order of stores is that of the slice
  no_later-same : (x : ByteStore) (j i : ℕ) (b : ℕ) → Has K j → matching_place K j ≡ i → IsNoLater x (record { store = j; byte = b }) → IsNoLater (store_in K x) (record { store = i; byte = b })
  no_later-same x j i b chosen at (inl before) = inl (omega (arith, placed-later T K x.store j s chosen before, at))
  no_later-same x j i b chosen at (inr same) = inr (ap (matching_place K) same.0 ∙ at, same.1)

  first_lost-same : (m : ℕ) (full : Option ℕ) (x : ByteStore) → m ≤ n → IsFirstLost T n A m full x → IsFirstLost (cut T K) (matching_place K n) A (matching_place K m) full (store_in K x)
  first_lost-same m full x by it = record {
    is_last = (last-in x it.is_last).1;
    is_lost = (let own = line-last T n A x it.is_last in (lost-same own.0 x.store m full own.1 by).0 it.is_lost);
    first = λ z is_last is_lost.
        let from = last-of z is_last in
        let own = line-last T n A (record { store = from.0; byte = z.byte }) from.1 in
        let lost = (lost-same own.0 from.0 m full own.1 by).1 (subst (IsLost (cut T K) (matching_place K m) full) (sym from.2) is_lost) in
        no_later-same x from.0 z.store z.byte (grounds.stores own.0 from.0 own.1) from.2 (it.first (record { store = from.0; byte = z.byte }) from.1 lost);
  }

persist-same : (T : Recording) (n : ℕ) (K : List ℕ) (A : Span) (f : Failure) → IsSlice T n K → IsRangeOf T n A → IsPersistFailure T n A f → IsPersistFailure (cut T K) (matching_place K n) A (failure_in K f)
persist-same T n K A f slice range it = record {
  place = ap (matching_place K) it.place;
  kept = ap (option_map (store_in K)) it.kept;
  lost = first_lost-same T n K A slice range n None f.lost (omega arith) it.lost;
}

ordered-same : (T : Recording) (n : ℕ) (K : List ℕ) (A B : Span) (f : Failure) → IsSlice T n K → IsRangeOf T n A → IsRangeOf T n B → IsOrderedFailure T n A B f →
    IsOrderedFailure (cut T K) (matching_place K n) A B (failure_in K f)
ordered-same T n K A B f slice first second it =
    let s = slice-subsequence T n K slice (range-within T n A first) in
    let kept = last-in T n K B slice second it.kept it.is_last in
    let by = (last_store_number-is T it.kept.byte n it.kept.store it.is_last.last).by_now in
    record {
      kept = store_in K it.kept;
      line = it.line;
      what = it.what;
      is_kept = ap (option_map (store_in K)) it.is_kept;
      place = ap (matching_place K) it.place;
      is_last = kept.1;
      is_store = kept-act T K it.kept.store (Stores it.line it.what) s kept.0 it.is_store;
      lost = first_lost-same T n K A slice first it.kept.store (Some it.line) f.lost by it.lost;
      first = λ y x last without.
          let older = last-of T n K B slice second y without.is_last in
          let lost = last-of T n K A slice first x last in
          let line = line-last T n B (record { store = older.0; byte = y.byte }) older.1 in
          let other = line-last T n A (record { store = lost.0; byte = x.byte }) lost.1 in
          let chosen = (last-in T n K B slice second (record { store = older.0; byte = y.byte }) older.1).0 in
          let here = subst (λ k. IsAct (cut T K) k (Stores line.0 line.1.what)) older.2 (kept-act T K older.0 (Stores line.0 line.1.what) s chosen line.1.is_store) in
          let same = act-unique (cut T K) y.store (Stores line.0 line.1.what) (Stores without.line without.what) here without.is_store in
          let at : line.0 ≡ without.line = cc in
          let gone = subst (λ m. IsLost (cut T K) m (Some without.line) x.store) (sym older.2) without.is_lost in
          let missing = subst (IsLost (cut T K) (matching_place K older.0) (Some without.line)) (sym lost.2) gone in
          let within = (last_store_number-is T y.byte n older.0 older.1.last).by_now in
          no_later-same T n K B slice second it.kept older.0 y.store y.byte chosen older.2
          (it.first (record { store = older.0; byte = y.byte }) (record { store = lost.0; byte = x.byte }) lost.1 (record {
            line = without.line;
            what = line.1.what;
            is_last = older.1;
            is_store = subst (λ k. IsAct T older.0 (Stores k line.1.what)) at line.1.is_store;
            is_lost = (lost-same T n K A slice first other.0 lost.0 older.0 (Some without.line) other.1 within).1 missing;
          }));
    }

pub slice_fails : SliceFails
slice_fails T n K f slice fails = go (event T n) refl fails
  where
    of-op : (e : Event) → event T n ≡ Some e → (op : Op) → e.op ≡ op → IsFailureOf T n op (Some f) → IsFailureOf (cut T K) (matching_place K n) op (Some (failure_in K f))
    of-op e is (IsPersist A) op it = persist-same T n K A f slice (persist-range T n e A is op) it
    of-op e is (IsOrderedBefore A B) op it = ordered-same T n K A B f slice (first-range T n e A B is op) (second-range T n e A B is op) it
    of-op e is other op it = cc

    go : (o : Option Event) → event T n ≡ o → MatchOption o (Some f ≡ None) (λ e. IsFailureOf T n e.op (Some f)) → IsFailureAt (cut T K) (matching_place K n) (Some (failure_in K f))
    go None none it = cc
    go (Some e) is it =
        let within = (act-within T n (act T.format e) (e, is, refl)).1 in
        let s = slice-subsequence T n K slice within in
        let here : event (cut T K) (matching_place K n) ≡ Some e = kept-event T K n s ((slice.just n).1 (TheAssertion refl)) ∙ is in
        subst (λ o. MatchOption o (Some (failure_in K f) ≡ None) (λ e. IsFailureOf (cut T K) (matching_place K n) e.op (Some (failure_in K f)))) (sym here) (of-op e is e.op refl it)
