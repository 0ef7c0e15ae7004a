-- What is counted, event by event.
use Rattle.pmt_fates.proofs.Prelude.{◌≡◌, ◌≢◌, ℕ, zero, suc, ◌+◌, ◌*◌, ◌<◌, ◌≤◌, ◌⊎◌, inl, inr, Bool, true, false, ◌==◌, ◌||◌, not, cond, List, [], ◌∷◌, ◌++◌, length, take, set, refl, sym, ap, subst, ◌∙◌, arith, if◌then◌else◌, replicate, reverse, slice_index, cases_eq, eq-eqb, ne_eqb, get_or-replicate, get_or-set_same, get_or-set_other, length-replicate, length-reverse, length-set, length-take, reverse-append, count_by-le-length, length-filter, sum_by-cons, sum_by-take-le, Event, Op, Store, Clwb, ClflushOpt, Sfence, Mfence, Recording, IsEventIn, IsOp, IsTrace, event_limit, Layout, AllByRecursion, sum_by, Counts, FenceSizes, AreFew, by_thread, counts_of, is_clwb, is_clflushopt, is_sfence, is_mfence, stored, with_op, AreSizes, bar_of, fence_sizes, is_fence, is_fence_of, is_flush_of, waiting, with_size, row_of, rows_below, thread_rows, IsTally, counts_in, sizes_after, waiting_after}
use Rattle.std.proofs.lemmas.List.Filters.{sum_by-filter_both}
use Rattle.pmt_fates.specs.declared.figures.ThreadCounts.{ThreadCounts}
use Rattle.pmt_fates.specs.Counting.{AreSmall}
use Rattle.pmt_fates.proofs.CountingLemmas.{counts-push, few, threads-next}
use Rattle.pmt_fates.proofs.FencingLemmas.{sizes-le, sizes-next, sum-le, waiting-le, waiting-next}

-- the flushes that wait, once an event came
own-waits : (t w : ℕ) (waits : List ℕ) (op : Op) → t < length waits → slice_index waits t ≡ w →
    slice_index (waiting_after t op waits) t ≡ cond (is_sfence op || is_mfence op) 0 (cond (is_clwb op || is_clflushopt op) 1 0 + w)
own-waits t w waits (Clwb a) within here = omega (arith, here, get_or-set_same waits t (slice_index waits t + 1) 0 within)
own-waits t w waits (ClflushOpt a) within here = omega (arith, here, get_or-set_same waits t (slice_index waits t + 1) 0 within)
own-waits t w waits Sfence within here = get_or-set_same waits t 0 0 within
own-waits t w waits Mfence within here = get_or-set_same waits t 0 0 within
own-waits t w waits op within here = omega (arith, here)

other-waits : (t k : ℕ) (waits : List ℕ) (op : Op) → k ≢ t → slice_index (waiting_after t op waits) k ≡ slice_index waits k
other-waits t k waits op apart = go (is_clwb op || is_clflushopt op) (is_sfence op || is_mfence op)
  where
    more : ℕ
    more = slice_index waits t + 1

    go : (a b : Bool) → slice_index (if a then set waits t more else if b then set waits t 0 else waits) k ≡ slice_index waits k
    go true b = get_or-set_other waits t k more 0 apart
    go false true = get_or-set_other waits t k 0 0 apart
    go false false = refl

waits-next : (es : List Event) (e : Event) (waits : List ℕ) → length waits ≡ 256 → ((t : ℕ) → t < 256 → slice_index waits t ≡ waiting t (reverse es)) → (t : ℕ) → t < 256 →
    slice_index (waiting_after e.thread e.op waits) t ≡ waiting t (reverse (es ++ e ∷ []))
waits-next es e waits size each t below = go (cases_eq t e.thread) ∙ sym (ap (waiting t) (reverse-append es (e ∷ [])) ∙ waiting-next t e (reverse es))
  where
    go : (t ≡ e.thread) ⊎ (t ≢ e.thread) → slice_index (waiting_after e.thread e.op waits) t ≡ cond (is_fence_of t e) 0 (cond (is_flush_of t e) 1 0 + waiting t (reverse es))
    go (inl same) =
        let own : (e.thread == t) ≡ true = eq-eqb e.thread t (sym same) in
        let here : slice_index (waiting_after e.thread e.op waits) t ≡ slice_index (waiting_after t e.op waits) t = ap (λ n. slice_index (waiting_after n e.op waits) t) (sym same) in
        rw own (here ∙ own-waits t (waiting t (reverse es)) waits e.op (omega (arith, size, below)) (each t below))
    go (inr apart) =
        let other : (e.thread == t) ≡ false = ne_eqb e.thread t (λ same. apart (sym same)) in
        let none : waiting t (reverse es) ≡ 0 + waiting t (reverse es) = omega arith in
        rw other (other-waits e.thread t waits e.op apart ∙ each t below ∙ none)

after-size : (t : ℕ) (op : Op) (waits : List ℕ) → length waits ≡ 256 → length (waiting_after t op waits) ≡ 256
after-size t op waits size = go (is_clwb op || is_clflushopt op) (is_sfence op || is_mfence op)
  where
    more : ℕ
    more = slice_index waits t + 1

    go : (a b : Bool) → length (if a then set waits t more else if b then set waits t 0 else waits) ≡ 256
    go true b = length-set waits t more ∙ size
    go false true = length-set waits t 0 ∙ size
    go false false = size

-- the sizes of fences, once an event came
fences-next : (es : List Event) (e : Event) (waits : List ℕ) (z : FenceSizes) → length z.bars ≡ 7 → slice_index waits e.thread ≡ waiting e.thread (reverse es) → AreSizes (fence_sizes (reverse es)) z →
    AreSizes (fence_sizes (reverse (es ++ e ∷ []))) (sizes_after e.thread e.op waits z)
fences-next es e waits z size here are =
    subst (λ (past : List Event). AreSizes (fence_sizes past) (sizes_after e.thread e.op waits z)) (sym (reverse-append es (e ∷ []))) (go (is_fence e))
  where
    sizes : List ℕ
    sizes = fence_sizes (reverse es)

    go : (b : Bool) → AreSizes (if b then waiting e.thread (reverse es) ∷ sizes else sizes) (if b then with_size (slice_index waits e.thread) z else z)
    go true = subst (λ n. AreSizes (n ∷ sizes) (with_size (slice_index waits e.thread) z)) here (sizes-next (slice_index waits e.thread) sizes z size are)
    go false = are

bars-size : (t : ℕ) (op : Op) (waits : List ℕ) (z : FenceSizes) → length z.bars ≡ 7 → length (sizes_after t op waits z).bars ≡ 7
bars-size t op waits z size = go (is_sfence op || is_mfence op)
  where
    n : ℕ
    n = slice_index waits t

    go : (b : Bool) → length (if b then with_size n z else z).bars ≡ 7
    go true = length-set z.bars (bar_of n) (slice_index z.bars (bar_of n) + 1) ∙ size
    go false = size

-- one more event
pub tally-next : (es : List Event) (e : Event) (all : Counts) (threads : List Counts) (waits : List ℕ) (z : FenceSizes) → e.thread < 256 → IsTally es all threads waits z →
    IsTally (es ++ e ∷ []) (with_op e.op all) (set threads e.thread (with_op e.op (counts_in threads e.thread))) (waiting_after e.thread e.op waits) (sizes_after e.thread e.op waits z)
tally-next es e all threads waits z thread is = record {
  counts = ap (with_op e.op) is.counts ∙ sym (counts-push es e);
  table = length-set threads e.thread (with_op e.op (counts_in threads e.thread)) ∙ is.table;
  each = threads-next es e threads is.table is.each;
  room = after-size e.thread e.op waits is.room;
  open_flushes = waits-next es e waits is.room is.open_flushes;
  bars = bars-size e.thread e.op waits z is.bars;
  sizes = fences-next es e waits z is.bars (is.open_flushes e.thread thread) is.sizes;
}

-- ---- What is counted is small

op-stored : (op : Op) → IsOp op → stored op ≤ 8
op-stored (Store w) is = omega (arith, is.inside)
op-stored op is = omega arith

stored-le : (f : Layout) (es : List Event) → AllByRecursion (IsEventIn f) es → sum_by (λ (e : Event). stored e.op) es ≤ 8 * length es
stored-le f [] all = omega arith
stored-le f (e ∷ es) all = omega (arith, op-stored e.op all.0.event.op, stored-le f es all.1, sum_by-cons (λ (x : Event). stored x.op) e es)

pub few-so-far : (T : Recording) (i : ℕ) → IsTrace T → AreFew (counts_of (take i T.events))
few-so-far T i is =
    let es = take i T.events in
    let bytes : sum_by (λ (e : Event). stored e.op) es ≤ 8 * event_limit =
    omega (arith, stored-le T.format T.events is.each, is.few, sum_by-take-le (λ (e : Event). stored e.op) T.events i)
    in
    few es (omega (arith, length-take i T.events, is.few)) bytes

pub few-of-thread : (T : Recording) (i t : ℕ) → IsTrace T → AreFew (counts_of (by_thread t (take i T.events)))
few-of-thread T i t is =
    let es = take i T.events in
    let all : AreFew (counts_of es) = few-so-far T i is in
    let own : Event → Bool = λ (e : Event). e.thread == t in
    few (by_thread t es)
    (omega (arith, length-filter own es, count_by-le-length own es, all.events))
    (omega (arith, all.bytes, sum_by-filter_both own (λ (e : Event). not (own e)) (λ e. refl) (λ (e : Event). stored e.op) es))

pub small-so-far : (es : List Event) (all : Counts) (threads : List Counts) (waits : List ℕ) (z : FenceSizes) → length es ≤ event_limit → IsTally es all threads waits z → AreSmall waits z
small-so-far es all threads waits z short is = record {
  open_flushes = λ t below. omega (arith, is.open_flushes t below, waiting-le t (reverse es), length-reverse es);
  bars = λ b below. omega (arith, is.sizes.bars b below, count_by-le-length (λ n. bar_of n == b) (fence_sizes (reverse es)), sizes-le (reverse es), length-reverse es);
  flushes = omega (arith, is.sizes.flushes, sum-le (reverse es) (omega (arith, length-reverse es)), length-reverse es);
}

-- ---- The rows of threads

pub rows-same : (f g : ℕ → Counts) (n : ℕ) → ((t : ℕ) → t < n → f t ≡ g t) → rows_below f n ≡ rows_below g n
rows-same f g zero same = refl
rows-same f g (suc n) same =
    ap (λ (rows : List ThreadCounts). rows ++ row_of n (f n)) (rows-same f g n (λ t below. same t (omega arith)))
    ∙ ap (λ (c : Counts). rows_below g n ++ row_of n c) (same n (omega arith))

pub rows-told : (es : List Event) (all : Counts) (threads : List Counts) (waits : List ℕ) (z : FenceSizes) → IsTally es all threads waits z → rows_below (counts_in threads) (length threads) ≡ thread_rows es
unfolding thread_rows
rows-told es all threads waits z is = ap (rows_below (counts_in threads)) is.table ∙ rows-same (counts_in threads) (λ t. counts_of (by_thread t es)) 256 is.each

-- ---- No event yet

pub tally-start : (all : Counts) (threads : List Counts) (z : FenceSizes) → all ≡ counts_of [] → threads ≡ replicate 256 (counts_of []) → length z.bars ≡ 7 → AreSizes [] z →
    IsTally [] all threads (replicate 256 0) z
tally-start all threads z none empty bars sizes = record {
  counts = none;
  table = ap (λ (cs : List Counts). length cs) empty ∙ length-replicate 256 (counts_of []);
  each = λ t below. ap (λ (cs : List Counts). counts_in cs t) empty ∙ get_or-replicate 256 t (counts_of []) (counts_of []) below;
  room = length-replicate {A = ℕ} 256 0;
  open_flushes = λ t below. get_or-replicate 256 t 0 0 below;
  bars = bars;
  sizes = sizes;
}
