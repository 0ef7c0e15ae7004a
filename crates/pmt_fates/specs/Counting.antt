-- How many events of each kind there are, how full fences are, what places pay, and the figures of a trace.
use Rattle.std.specs.Prelude.{ℕ, ◌+◌, ◌*◌, ◌≤◌, ◌==◌, Bool, true, false, cond, List, length, ◌≡◌, ◌<◌, ◌&&◌, ◌||◌, not, if◌then◌else◌, nat_le, nat_lt, [], ◌∷◌, slice_index, slice_set, zero, suc, ◌++◌, reverse, get_or, ◌-◌, ◌^◌, ◌⊎◌, Some, slice_get}
use Rattle.pmt_laws.specs.Prelude.{Event, Op, Store, Clwb, ClflushOpt, Clflush, Sfence, Mfence, IsPersist, IsOrderedBefore, event_limit, count_by, filter, sum_by, sum, take_while, IsPermutation}
use Rattle.pmt_fates.specs.declared.counts.Counts.{Counts}
use Rattle.pmt_fates.specs.declared.fences.FenceSizes.{FenceSizes}
use Rattle.pmt_fates.specs.declared.figures.Figures.{Figures}
use Rattle.pmt_fates.specs.declared.figures.ThreadCounts.{ThreadCounts}
use Rattle.pmt_fates.specs.declared.place_row.PlaceRow.{PlaceRow}
use Rattle.pmt_fates.specs.declared.costs.Cost.{Cost}
use Rattle.pmt_fates.specs.declared.costs.PlaceCost.{PlaceCost}

abbrev pub is_store : Op → Bool
is_store (Store w) = true
is_store op = false

abbrev pub is_clwb : Op → Bool
is_clwb (Clwb a) = true
is_clwb op = false

abbrev pub is_clflushopt : Op → Bool
is_clflushopt (ClflushOpt a) = true
is_clflushopt op = false

abbrev pub is_clflush : Op → Bool
is_clflush (Clflush a) = true
is_clflush op = false

abbrev pub is_sfence : Op → Bool
is_sfence Sfence = true
is_sfence op = false

abbrev pub is_mfence : Op → Bool
is_mfence Mfence = true
is_mfence op = false

abbrev pub is_persist : Op → Bool
is_persist (IsPersist r) = true
is_persist op = false

abbrev pub is_ordered : Op → Bool
is_ordered (IsOrderedBefore r q) = true
is_ordered op = false

-- How many bytes an op stores.
abbrev pub stored : Op → ℕ
stored (Store w) = length w.bytes
stored op = 0

-- The counts of these events.
abbrev pub counts_of : List Event → Counts
counts_of events = record {
  events = length events;
  stores = count_by (λ (e : Event). is_store e.op) events;
  clwbs = count_by (λ (e : Event). is_clwb e.op) events;
  clflushopts = count_by (λ (e : Event). is_clflushopt e.op) events;
  clflushes = count_by (λ (e : Event). is_clflush e.op) events;
  sfences = count_by (λ (e : Event). is_sfence e.op) events;
  mfences = count_by (λ (e : Event). is_mfence e.op) events;
  persists = count_by (λ (e : Event). is_persist e.op) events;
  orders = count_by (λ (e : Event). is_ordered e.op) events;
  bytes = sum_by (λ (e : Event). stored e.op) events;
}

-- Those of these events that thread t makes.
abbrev pub by_thread : ℕ → List Event → List Event
by_thread t events = filter (λ (e : Event). e.thread == t) events

-- The counts with one more op.
abbrev pub with_op : Op → Counts → Counts
with_op op c = record {
  events = c.events + 1;
  stores = c.stores + cond (is_store op) 1 0;
  clwbs = c.clwbs + cond (is_clwb op) 1 0;
  clflushopts = c.clflushopts + cond (is_clflushopt op) 1 0;
  clflushes = c.clflushes + cond (is_clflush op) 1 0;
  sfences = c.sfences + cond (is_sfence op) 1 0;
  mfences = c.mfences + cond (is_mfence op) 1 0;
  persists = c.persists + cond (is_persist op) 1 0;
  orders = c.orders + cond (is_ordered op) 1 0;
  bytes = c.bytes + stored op;
}

-- Each count is at most that of a whole trace.
pub record AreFew (c : Counts) : Type 0 where
  pub events : c.events ≤ event_limit
  pub stores : c.stores ≤ event_limit
  pub clwbs : c.clwbs ≤ event_limit
  pub clflushopts : c.clflushopts ≤ event_limit
  pub clflushes : c.clflushes ≤ event_limit
  pub sfences : c.sfences ≤ event_limit
  pub mfences : c.mfences ≤ event_limit
  pub persists : c.persists ≤ event_limit
  pub orders : c.orders ≤ event_limit
  pub bytes : c.bytes ≤ 8 * event_limit

-- ---- How many flushes fences wait for

-- Thread t flushes a line, and waits for a fence. A clflush waits for none.
abbrev pub is_flush_of : ℕ → Event → Bool
is_flush_of t e = (e.thread == t) && (is_clwb e.op || is_clflushopt e.op)

abbrev pub is_fence : Event → Bool
is_fence e = is_sfence e.op || is_mfence e.op

abbrev pub is_fence_of : ℕ → Event → Bool
is_fence_of t e = (e.thread == t) && is_fence e

-- How many flushes of thread t stand after its last fence, or at all where it has made none; the newest event comes first.
abbrev pub waiting : ℕ → List Event → ℕ
waiting t past = count_by (is_flush_of t) (take_while (λ e. not (is_fence_of t e)) past)

-- Of each fence how many flushes wait for it: those of its thread since its fence before; the newest event comes first.
abbrev pub fence_sizes : List Event → List ℕ
fence_sizes [] = []
fence_sizes (e ∷ past) = if is_fence e then waiting e.thread past ∷ fence_sizes past else fence_sizes past

-- The bars of the histogram: of 0, 1, 2, 3 to 4, 5 to 8, 9 to 16, and more flushes.
abbrev pub bar_of : ℕ → ℕ
bar_of n = if nat_le n 2 then n else if nat_le n 4 then 3 else if nat_le n 8 then 4 else if nat_le n 16 then 5 else 6

-- The greatest of the numbers; 0 of none.
abbrev pub greatest : List ℕ → ℕ
greatest [] = 0
greatest (n ∷ ns) = if nat_lt (greatest ns) n then n else greatest ns

-- The sizes of fences: how many there are in each bar, the greatest, and all together.
pub record AreSizes (sizes : List ℕ) (z : FenceSizes) : Type 0 where
  pub bars : (b : ℕ) → b < 7 → slice_index z.bars b ≡ count_by (λ n. bar_of n == b) sizes
  pub most : z.most ≡ greatest sizes
  pub flushes : z.flushes ≡ sum sizes

-- The sizes with one more.
abbrev pub with_size : ℕ → FenceSizes → FenceSizes
with_size n z = record {
  bars = slice_set z.bars (bar_of n) (slice_index z.bars (bar_of n) + 1);
  most = if nat_lt z.most n then n else z.most;
  flushes = z.flushes + n;
}

-- The row of a thread that has events; none of another.
abbrev pub row_of : ℕ → Counts → List ThreadCounts
row_of t c = if c.events == 0 then [] else record { thread = t; counts = c } ∷ []

-- The rows of the threads below n.
abbrev pub rows_below : (ℕ → Counts) → ℕ → List ThreadCounts
rows_below counts zero = []
rows_below counts (suc t) = rows_below counts t ++ row_of t (counts t)

-- The rows of all threads: their numbers are below 256.
unfoldable pub thread_rows : List Event → List ThreadCounts
thread_rows events = rows_below (λ t. counts_of (by_thread t events)) 256

-- The counts of all events, of each thread that makes some, and how many flushes wait for fences.
pub record AreFigures (events : List Event) (f : Figures) : Type 0 where
  pub all : f.all ≡ counts_of events
  pub threads : f.threads.items ≡ thread_rows events
  pub fences : AreSizes (fence_sizes (reverse events)) f.fences

-- ---- What is counted while events are read

-- The counts of a thread in the table of threads.
abbrev pub counts_in : List Counts → ℕ → Counts
counts_in threads t = get_or threads t (counts_of [])

-- How many flushes of each thread wait, once thread t has made the op.
abbrev pub waiting_after : ℕ → Op → List ℕ → List ℕ
waiting_after t op waits =
    if is_clwb op || is_clflushopt op then slice_set waits t (slice_index waits t + 1)
    else if is_sfence op || is_mfence op then slice_set waits t 0
    else waits

-- The sizes of fences, once thread t has made the op.
abbrev pub sizes_after : ℕ → Op → List ℕ → FenceSizes → FenceSizes
sizes_after t op waits z = if is_sfence op || is_mfence op then with_size (slice_index waits t) z else z

-- What is known of these events.
pub record IsTally (events : List Event) (all : Counts) (threads : List Counts) (waits : List ℕ) (z : FenceSizes) : Type 0 where
  pub counts : all ≡ counts_of events
  pub table : length threads ≡ 256
  pub each : (t : ℕ) → t < 256 → counts_in threads t ≡ counts_of (by_thread t events)
  pub room : length waits ≡ 256
  pub open_flushes : (t : ℕ) → t < 256 → slice_index waits t ≡ waiting t (reverse events)
  pub bars : length z.bars ≡ 7
  pub sizes : AreSizes (fence_sizes (reverse events)) z

-- No number in these sizes and waits is too great to be counted up.
pub record AreSmall (waits : List ℕ) (z : FenceSizes) : Type 0 where
  pub open_flushes : (t : ℕ) → t < 256 → slice_index waits t ≤ event_limit
  pub bars : (b : ℕ) → b < 7 → slice_index z.bars b ≤ event_limit
  pub flushes : z.flushes ≤ event_limit * event_limit

-- ---- What places pay for their flushes and fences

-- What a place pays, by what becomes of its flushes and fences.
abbrev pub cost_in : PlaceRow → Cost
cost_in r = record { flushes = r.flushes; idle_flushes = r.idle_flushes; fences = r.fences; idle_fences = r.idle_fences }

-- All flushes and fences of a place, and those that do nothing.
abbrev pub paid : PlaceCost → ℕ
paid p = p.cost.flushes + p.cost.fences

abbrev pub wasted : PlaceCost → ℕ
wasted p = p.cost.idle_flushes + p.cost.idle_fences

-- Less for more: two counts below 2 ^ 64 together are below 2 ^ 65.
abbrev pub less : ℕ → ℕ
less n = 2 ^ 65 - n

-- The first place has more that does nothing, or as much and no fewer flushes and fences.
abbrev pub ComesBefore : PlaceCost → PlaceCost → Type 0
ComesBefore p q = (less (wasted p) < less (wasted q)) ⊎ ((less (wasted p) ≡ less (wasted q)) × (less (paid p) ≤ less (paid q)))

-- These are the places, each as it was, in this order.
pub record AreInOrder (given places : List PlaceCost) : Type 0 where
  pub same : IsPermutation given places
  pub order : (k : ℕ) (p q : PlaceCost) → slice_get places k ≡ Some p → slice_get places (suc k) ≡ Some q → ComesBefore p q
