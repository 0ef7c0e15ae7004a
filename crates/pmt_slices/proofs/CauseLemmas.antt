-- Whether and why the stores of an assertion are pending, in the trace and in its slice.
use Rattle.pmt_slices.proofs.Prelude.{◌≡◌, ℕ, ◌≤◌, List, Option, Some, None, refl, arith, ◌↔◌, Written, Stores, Flushes, Clflushes, Fences, Recording, IsAct, IsFlushOf, ByFlush, ByClflush, IsSafe, Has, cut, matching_place, option_map, Cause, Later, Unflushed, Unfenced, IsUnfenced, IsFirstFenceAt, IsFirstFence, IsCause, place-mono, cause-unsafe, front-covers, safe-up_to, safe-later, IsSubsequence, IsFirstFlush, Tells, Itself, FirstFlush, FirstFence, cause_in, SliceTells}
use Rattle.pmt_slices.proofs.CuttingLemmas.{kept-act, act-origin, placed-later, later-origin, placed-by}
use Rattle.pmt_slices.proofs.CoverLemmas.{safe-stays}
use Rattle.pmt_slices.proofs.SliceLemmas.{range-within, slice-subsequence, slice-has, tells-cover}

-- A flush of line l in the cut is that of this chosen event.
record IsFlushOrigin (T : Recording) (K : List ℕ) (l i : ℕ) : Type 0 where
  pub number : ℕ
  pub chosen : Has K number
  pub place : matching_place K number ≡ i
  pub is_flush : IsFlushOf T l number

flush-origin : (T : Recording) (K : List ℕ) (l i : ℕ) → IsSubsequence T K → IsFlushOf (cut T K) l i → IsFlushOrigin T K l i
flush-origin T K l i s (ByFlush t is) = let o = act-origin T K i (Flushes t l) s is in record { number = o.number; chosen = o.chosen; place = o.place; is_flush = ByFlush t o.is_act }
flush-origin T K l i s (ByClflush is) = let o = act-origin T K i (Clflushes l) s is in record { number = o.number; chosen = o.chosen; place = o.place; is_flush = ByClflush o.is_act }

-- a pending store is not safe
pending-unsafe : (T : Recording) (l q j : ℕ) (w : Written) (c : Cause) → IsAct T j (Stores l w) → IsCause T l q j c → IsSafe T l q j → ⊥
pending-unsafe T l q j w c is why safe = omega (arith, cause-unsafe T l q j w c is why, (front-covers T l q j w is).1 ((safe-up_to T l q j w is).0 safe))

-- of a store of which all that tells up to place n is chosen
module _ (T : Recording) (n : ℕ) (K : List ℕ) (l j q : ℕ) (w : Written) (s : IsSubsequence T K) (is : IsAct T j (Stores l w)) (has : (k : ℕ) → Tells T n l j k → Has K k) (by : q ≤ n) where
  has-store : Has K j
  has-store = has j (Itself refl)

  pub safe-same : IsSafe T l q j ↔ IsSafe (cut T K) l (matching_place K q) (matching_place K j)
  safe-same =
      let same = safe-stays T K l j q w s has-store is (λ p within from. tells-cover T n K l j p w is has (omega (arith, within, by)) from) in
      let own = safe-up_to T l q j w is in
      let there = safe-up_to (cut T K) l (matching_place K q) (matching_place K j) w (kept-act T K j (Stores l w) s has-store is) in
      (λ safe. there.1 (same.0 (own.0 safe)), λ safe. own.1 (same.1 (there.0 safe)))

  module _ (flush thread : ℕ) (other : Option ℕ) (why : (j ≤ q) × IsUnfenced T l j q flush thread other) where
    first : IsFirstFlush T l j flush
    first = record { is_flush = ByFlush thread why.1.is_flush; after = why.1.after; first = why.1.first }

    has-flush : Has K flush
    has-flush = has flush (FirstFlush (omega (arith, why.1.by_now)) first)

    has-fence : (g : ℕ) → IsFirstFenceAt T flush q g → Has K g
    has-fence g fence = has g (FirstFence flush first (record
        { thread = fence.thread; is_fence = fence.is_fence; after = fence.after; by_now = omega (arith, fence.by_now); none_before = fence.none_before })
        (λ p before safe. pending-unsafe T l q j w (Unfenced flush thread other) is why (safe-later T l p q j (omega (arith, fence.by_now)) safe)))

    fence-same : (o : Option ℕ) → IsFirstFence T flush q o → IsFirstFence (cut T K) (matching_place K flush) (matching_place K q) (option_map (matching_place K) o)
    fence-same None none = λ k t after within is.
        let x = act-origin T K k (Fences t) s is in
        none x.number t (later-origin K flush x.number (omega (arith, after, x.place))) (placed-by T K x.number q s x.chosen (omega (arith, within, x.place))) x.is_act
    fence-same (Some g) fence = record {
      thread = fence.thread;
      is_fence = kept-act T K g (Fences fence.thread) s (has-fence g fence) fence.is_fence;
      after = placed-later T K flush g s (has-fence g fence) fence.after;
      by_now = place-mono K g q fence.by_now;
      none_before = λ k t after before is.
          let x = act-origin T K k (Fences t) s is in
          fence.none_before x.number t (later-origin K flush x.number (omega (arith, after, x.place))) (later-origin K x.number g (omega (arith, before, x.place))) x.is_act;
    }

    unfenced-same : IsUnfenced (cut T K) l (matching_place K j) (matching_place K q) (matching_place K flush) thread (option_map (matching_place K) other)
    unfenced-same = record {
      is_flush = kept-act T K flush (Flushes thread l) s has-flush why.1.is_flush;
      after = placed-later T K j flush s has-flush why.1.after;
      by_now = place-mono K flush q why.1.by_now;
      first = λ k after before is.
          let x = flush-origin T K l k s is in
          why.1.first x.number (later-origin K j x.number (omega (arith, after, x.place))) (later-origin K x.number flush (omega (arith, before, x.place))) x.is_flush;
      no_clflush = λ k after within is.
          let x = act-origin T K k (Clflushes l) s is in
          why.1.no_clflush x.number (later-origin K j x.number (omega (arith, after, x.place))) (placed-by T K x.number q s x.chosen (omega (arith, within, x.place))) x.is_act;
      unfenced = λ t i k after later within is fence.
          let x = act-origin T K i (Flushes t l) s is in
          let y = act-origin T K k (Fences t) s fence in
          why.1.unfenced t x.number y.number (later-origin K j x.number (omega (arith, after, x.place))) (later-origin K x.number y.number (omega (arith, later, x.place, y.place))) (placed-by T K y.number q s y.chosen (omega (arith, within, y.place))) x.is_act y.is_act;
      first_fence = fence-same other why.1.first_fence;
    }

  pub cause-same : (c : Cause) → IsCause T l q j c → IsCause (cut T K) l (matching_place K q) (matching_place K j) (cause_in K c)
  cause-same Later before = placed-later T K q j s has-store before
  cause-same Unflushed why = (
    place-mono K j q why.0,
    λ k after within is.
        let x = flush-origin T K l k s is in
        why.1 x.number (later-origin K j x.number (omega (arith, after, x.place))) (placed-by T K x.number q s x.chosen (omega (arith, within, x.place))) x.is_flush,
  )
  cause-same (Unfenced flush thread other) why = (place-mono K j q why.0, unfenced-same flush thread other why)

pub slice_tells : SliceTells
slice_tells = record {
  safe = λ T n K A l j q slice range it by. safe-same T n K l j q it.what (slice-subsequence T n K slice (range-within T n A range)) it.is_store (λ k tells. slice-has T n K A l j k slice range it tells) by;
  cause = λ T n K A l j q c slice range it by why.
      cause-same T n K l j q it.what (slice-subsequence T n K slice (range-within T n A range)) it.is_store (λ k tells. slice-has T n K A l j k slice range it tells) by c why;
}
