-- Small traces, with what the definitions say of them: a reader may take them for examples.
use Rattle.std.specs.Prelude.{◌≡◌, ◌↔◌, ◌⊎◌, ℕ, ◌==◌, if◌then◌else◌, List, [], ◌∷◌, true, false, Some, None}
use Rattle.pmt_laws.specs.Prelude.{Event, Store, Clwb, Clflush, Sfence, IsPersist, IsOrderedBefore, Overwritten, NeverPersisted, RedundantFlush, FenceWithoutFlush, Span, first_version, Image, Recording, history, count_at, CrashAt, front_at, IsSelection, IsFaithful, cut, IsKeep, last_store, PersistPasses, OrderedPasses, IsCovered, IsFinding, IsTrace, IsAnalysis}

-- Thread t stores a byte at the address.
abbrev pub store : ℕ → ℕ → ℕ → Event
store t a byte = record { thread = t; op = Store (record { addr = a; bytes = byte ∷ [] }) }

-- Thread t flushes the line of the address.
abbrev pub clwb : ℕ → ℕ → Event
clwb t a = record { thread = t; op = Clwb a }

-- Thread t flushes the line of the address at once.
abbrev pub clflush : ℕ → ℕ → Event
clflush t a = record { thread = t; op = Clflush a }

-- Thread t fences.
abbrev pub sfence : ℕ → Event
sfence t = record { thread = t; op = Sfence }

-- The byte at the address.
abbrev pub byte_at : ℕ → Span
byte_at a = record { addr = a; len = 1 }

-- The assertion that the byte at the address is persisted.
abbrev pub is_persist : ℕ → Event
is_persist a = record { thread = 0; op = IsPersist (byte_at a) }

-- The assertion that the byte at the first address persists before the one at the second.
abbrev pub is_ordered_before : ℕ → ℕ → Event
is_ordered_before a b = record { thread = 0; op = IsOrderedBefore (byte_at a) (byte_at b) }

-- A trace of version 1, whose lines have 64 bytes: the address 0x1000 lies in line 64, and 0x1040 in line 65.
abbrev pub trace_of : List Event → Recording
trace_of events = record { format = first_version; events = events }

-- After n events line l has this front and this count of stores.
abbrev pub HasFront : Recording → ℕ → ℕ → ℕ → ℕ → Type 0
HasFront T l n front count = (front_at T l n ≡ front) × (count_at T l n ≡ count)

-- After n events the last store to the byte at b is the one to line l with this rank.
abbrev pub HasLastStore : Recording → ℕ → ℕ → ℕ → ℕ → Type 0
HasLastStore T n b l rank = last_store b (history T n) ≡ Some (record { line = l; rank = rank })

-- What is kept are just these numbers.
pub record KeepsJust (T : Recording) (numbers : List ℕ) : Type 0 where
  pub keep : IsKeep T numbers
  pub only : (K : List ℕ) → IsKeep T K → K ≡ numbers

-- Memory in which nothing was written.
abbrev pub nothing : Image
nothing a = None

-- Thread t stores two bytes from the address on.
abbrev pub store_two : ℕ → ℕ → ℕ → ℕ → Event
store_two t a first second = record { thread = t; op = Store (record { addr = a; bytes = first ∷ second ∷ [] }) }

-- Memory in which the byte was written at the address, and nothing else.
abbrev pub byte_alone : ℕ → ℕ → Image
byte_alone a byte b = if b == a then Some byte else None

-- Memory in which one byte was written at the first address and one at the second, and nothing else.
abbrev pub two_bytes : ℕ → ℕ → ℕ → ℕ → Image
two_bytes a first b second c = if c == a then Some first else (if c == b then Some second else None)

abbrev pub IsSame : Image → Image → Type 0
IsSame image other = (a : ℕ) → image a ≡ other a

-- A fence completes the flushes of its own thread alone.
abbrev pub fence_of_another_thread : Recording
fence_of_another_thread = trace_of (store 0 0x1000 1 ∷ clwb 0 0x1000 ∷ sfence 1 ∷ is_persist 0x1000 ∷ [])

-- The store stays pending after the fence: a crash leaves nothing, or the byte. So the assertion fails, and only the store and
-- the assertion are kept.
pub record FenceOfAnotherThread : Type 0 where
  pub fenced : HasFront fence_of_another_thread 64 3 0 1
  pub leaves : (image : Image) → CrashAt fence_of_another_thread 3 image ↔ (IsSame nothing image ⊎ IsSame (byte_alone 0x1000 1) image)
  pub last : HasLastStore fence_of_another_thread 4 0x1000 64 1
  pub fails : ¬ PersistPasses (history fence_of_another_thread 4) (byte_at 0x1000)
  pub pending : IsFinding fence_of_another_thread (NeverPersisted 1 true)
  pub empty : IsFinding fence_of_another_thread (FenceWithoutFlush 3)
  pub kept : KeepsJust fence_of_another_thread (1 ∷ 4 ∷ [])

-- Each thread's fence waits for its own flush of the line.
abbrev pub flushed_by_two_threads : Recording
flushed_by_two_threads = trace_of (store 0 0x1000 1 ∷ clwb 0 0x1000 ∷ clwb 1 0x1000 ∷ sfence 1 ∷ sfence 0 ∷ [])

-- The first fence persists the store, so the flush and the fence of the other thread are not kept. The second flush is not
-- redundant when it comes, since a flush by another thread does not cover the store.
pub record FlushedByTwoThreads : Type 0 where
  pub not_covered : ¬ IsCovered flushed_by_two_threads 1 64 1 3
  pub not_redundant : ¬ IsFinding flushed_by_two_threads (RedundantFlush 3)
  pub flushed : HasFront flushed_by_two_threads 64 3 0 1
  pub fenced : HasFront flushed_by_two_threads 64 4 1 1
  pub fenced_again : HasFront flushed_by_two_threads 64 5 1 1
  pub kept : KeepsJust flushed_by_two_threads (1 ∷ 3 ∷ 4 ∷ [])

-- Two rounds of a store, a flush and a fence.
abbrev pub two_rounds : Recording
two_rounds = trace_of (store 0 0x1000 1 ∷ clwb 0 0x1000 ∷ sfence 0 ∷ store 0 0x1000 2 ∷ clwb 0 0x1000 ∷ sfence 0 ∷ [])

-- The second round persists both stores, and yet the first one is kept: without it a crash in the end leaves the same, but one
-- after event 3 may lose the first store.
pub record TwoRounds : Type 0 where
  pub first_round : HasFront two_rounds 64 3 1 1
  pub second_store : HasFront two_rounds 64 4 1 2
  pub second_round : HasFront two_rounds 64 6 2 2
  pub kept : KeepsJust two_rounds (1 ∷ 2 ∷ 3 ∷ 4 ∷ 5 ∷ 6 ∷ [])
  pub shorter : IsSelection two_rounds (1 ∷ 4 ∷ 5 ∷ 6 ∷ [])
  pub same_at_the_end : IsFaithful two_rounds (1 ∷ 4 ∷ 5 ∷ 6 ∷ []) 6
  pub not_between : ¬ IsFaithful two_rounds (1 ∷ 4 ∷ 5 ∷ 6 ∷ []) 3

-- A store between a flush and its fence.
abbrev pub store_after_flush : Recording
store_after_flush = trace_of (store 0 0x1000 1 ∷ clwb 0 0x1000 ∷ store 0 0x1000 2 ∷ sfence 0 ∷ [])

-- The fence persists what was stored before the flush, and not the later store. The earlier one is not overwritten, since its
-- line was flushed in between.
pub record StoreAfterFlush : Type 0 where
  pub not_overwritten : ¬ IsFinding store_after_flush (Overwritten 1 3)
  pub fenced : HasFront store_after_flush 64 4 1 2
  pub last : HasLastStore store_after_flush 4 0x1000 64 2
  pub pending : IsFinding store_after_flush (NeverPersisted 3 false)
  pub kept : KeepsJust store_after_flush (1 ∷ 2 ∷ 3 ∷ 4 ∷ [])

-- The fence comes between the stores to two lines.
abbrev pub ordered_by_fence : Recording
ordered_by_fence = trace_of (store 0 0x1000 1 ∷ clwb 0 0x1000 ∷ sfence 0 ∷ store 0 0x1040 2 ∷ is_ordered_before 0x1000 0x1040 ∷ [])

-- The first store is persisted before the second one comes, so the assertion passes.
pub record OrderedByFence : Type 0 where
  pub fenced : HasFront ordered_by_fence 64 3 1 1
  pub last_of_first : HasLastStore ordered_by_fence 5 0x1000 64 1
  pub last_of_second : HasLastStore ordered_by_fence 5 0x1040 65 1
  pub passes : OrderedPasses (history ordered_by_fence 5) (byte_at 0x1000) (byte_at 0x1040)
  pub kept : KeepsJust ordered_by_fence (1 ∷ 2 ∷ 3 ∷ 4 ∷ 5 ∷ [])

-- The fence comes after the stores to two lines.
abbrev pub ordered_fence_too_late : Recording
ordered_fence_too_late = trace_of (store 0 0x1000 1 ∷ clwb 0 0x1000 ∷ store 0 0x1040 2 ∷ sfence 0 ∷ is_ordered_before 0x1000 0x1040 ∷ [])

-- In the end the first store is persisted for sure, but before the fence the second one may persist alone, so the assertion fails.
pub record OrderedFenceTooLate : Type 0 where
  pub second_store : HasFront ordered_fence_too_late 64 3 0 1
  pub fenced : HasFront ordered_fence_too_late 64 5 1 1
  pub fails : ¬ OrderedPasses (history ordered_fence_too_late 5) (byte_at 0x1000) (byte_at 0x1040)
  pub kept : KeepsJust ordered_fence_too_late (1 ∷ 2 ∷ 3 ∷ 4 ∷ 5 ∷ [])

-- The same byte is stored twice at one address.
abbrev pub same_byte_twice : Recording
same_byte_twice =
    trace_of
    (store 0 0x1000 7 ∷ clwb 0 0x1000 ∷ sfence 0 ∷ store 0 0x1000 7 ∷ clwb 0 0x1000 ∷ sfence 0 ∷ is_persist 0x1000 ∷ [])

-- The second store changes no image, and yet its flush and fence are kept: without them a crash in the end leaves the same
-- images, and other counts of persisted stores.
pub record SameByteTwice : Type 0 where
  pub first_fence : HasFront same_byte_twice 64 3 1 1
  pub second_fence : HasFront same_byte_twice 64 6 2 2
  pub last : HasLastStore same_byte_twice 7 0x1000 64 2
  pub passes : PersistPasses (history same_byte_twice 7) (byte_at 0x1000)
  pub kept : KeepsJust same_byte_twice (1 ∷ 2 ∷ 3 ∷ 4 ∷ 5 ∷ 6 ∷ 7 ∷ [])
  pub shorter : IsSelection same_byte_twice (1 ∷ 2 ∷ 3 ∷ 4 ∷ 7 ∷ [])
  pub same_images : (image : Image) → CrashAt same_byte_twice 7 image ↔ CrashAt (cut same_byte_twice (1 ∷ 2 ∷ 3 ∷ 4 ∷ 7 ∷ [])) 5 image
  pub other_counts : ¬ IsFaithful same_byte_twice (1 ∷ 2 ∷ 3 ∷ 4 ∷ 7 ∷ []) 7

-- A clflush by another thread between a flush and its fence, in version 2 with lines of 64 bytes.
abbrev pub clflush_beats_clwb : Recording
clflush_beats_clwb = record {
  format = record { version = 2; line_size = 64 };
  events = store 0 0x1000 1 ∷ clwb 0 0x1000 ∷ clflush 1 0x1000 ∷ sfence 0 ∷ [];
}

-- The clflush persists the store by itself, so neither the flush nor the fence is kept. It is not redundant, since the store
-- is marked when it comes and not safe.
pub record ClflushBeatsClwb : Type 0 where
  pub not_redundant : ¬ IsFinding clflush_beats_clwb (RedundantFlush 3)
  pub flushed : HasFront clflush_beats_clwb 64 2 0 1
  pub flushed_now : HasFront clflush_beats_clwb 64 3 1 1
  pub fenced : HasFront clflush_beats_clwb 64 4 1 1
  pub kept : KeepsJust clflush_beats_clwb (1 ∷ 3 ∷ [])

-- The second byte of a store is stored again.
abbrev pub second_byte_again : Recording
second_byte_again = trace_of (store_two 0 0x1000 1 2 ∷ store 0 0x1001 3 ∷ [])

-- A crash leaves nothing, the first store whole, or both, with the newer byte where both have written, and no other image.
pub record SecondByteAgain : Type 0 where
  pub leaves :
      (image : Image) →
      CrashAt second_byte_again 2 image ↔ (IsSame nothing image ⊎ (IsSame (two_bytes 0x1000 1 0x1001 2) image ⊎ IsSame (two_bytes 0x1000 1 0x1001 3) image))
  pub kept : KeepsJust second_byte_again (1 ∷ 2 ∷ [])

-- ---- More small traces: what is found in them, the order within a line, and lines of other sizes

-- The same line is flushed twice before the fence.
abbrev pub double_flush : Recording
double_flush = trace_of (store 0 0x1000 1 ∷ clwb 0 0x1000 ∷ clwb 0 0x1000 ∷ sfence 0 ∷ [])

-- The second flush is blamed, since the first one has marked the store, and yet the second one is kept, since it is the last.
pub record DoubleFlush : Type 0 where
  pub second_is_redundant : IsFinding double_flush (RedundantFlush 3)
  pub first_is_not : ¬ IsFinding double_flush (RedundantFlush 2)
  pub kept : KeepsJust double_flush (1 ∷ 3 ∷ 4 ∷ [])

-- A byte is stored again before its line is flushed.
abbrev pub overwritten_before_flush : Recording
overwritten_before_flush = trace_of (store 0 0x1000 1 ∷ store 0 0x1001 2 ∷ store 1 0x1000 3 ∷ [])

-- The last store before to the same byte is overwritten; the store to the byte beside it is not.
pub record OverwrittenBeforeFlush : Type 0 where
  pub same_byte : IsFinding overwritten_before_flush (Overwritten 1 3)
  pub byte_beside : ¬ IsFinding overwritten_before_flush (Overwritten 2 3)
  pub kept : KeepsJust overwritten_before_flush (1 ∷ 2 ∷ 3 ∷ [])

-- Two stores to one line, with no flush.
abbrev pub order_within_a_line : Recording
order_within_a_line =
    trace_of (store 0 0x1000 1 ∷ store 0 0x1008 2 ∷ is_ordered_before 0x1000 0x1008 ∷ is_ordered_before 0x1008 0x1000 ∷ [])

-- The stores of a line persist in their order.
pub record OrderWithinALine : Type 0 where
  pub passes : OrderedPasses (history order_within_a_line 3) (byte_at 0x1000) (byte_at 0x1008)
  pub fails : ¬ OrderedPasses (history order_within_a_line 4) (byte_at 0x1008) (byte_at 0x1000)
  pub kept : KeepsJust order_within_a_line (1 ∷ 2 ∷ 3 ∷ 4 ∷ [])

-- A byte is flushed by an address 64 bytes further on, in version 2 with lines of this size.
abbrev pub flushed_further_on : ℕ → Recording
flushed_further_on size = record {
  format = record { version = 2; line_size = size };
  events = store 0 0x1000 1 ∷ clwb 0 0x1040 ∷ sfence 0 ∷ is_persist 0x1000 ∷ [];
}

-- With lines of 128 bytes the flush is of the line of the byte, 0x1000 / 128 being 32.
pub record WideLine : Type 0 where
  pub fenced : HasFront (flushed_further_on 128) 32 4 1 1
  pub passes : PersistPasses (history (flushed_further_on 128) 4) (byte_at 0x1000)
  pub kept : KeepsJust (flushed_further_on 128) (1 ∷ 2 ∷ 3 ∷ 4 ∷ [])

-- With lines of 64 bytes it is of the next line, which has no store.
pub record NarrowLine : Type 0 where
  pub fenced : HasFront (flushed_further_on 64) 64 4 0 1
  pub next_line : HasFront (flushed_further_on 64) 65 4 0 0
  pub fails : ¬ PersistPasses (history (flushed_further_on 64) 4) (byte_at 0x1000)
  pub redundant : IsFinding (flushed_further_on 64) (RedundantFlush 2)
  pub kept : KeepsJust (flushed_further_on 64) (1 ∷ 4 ∷ [])

-- The same line is flushed by two clflushes, in version 2 with lines of 64 bytes.
abbrev pub clflush_twice : Recording
clflush_twice = record {
  format = record { version = 2; line_size = 64 };
  events = store 0 0x1000 1 ∷ clflush 0 0x1000 ∷ clflush 0 0x1000 ∷ [];
}

-- The first one makes the store safe, so the second one is redundant.
pub record ClflushTwice : Type 0 where
  pub second_is_redundant : IsFinding clflush_twice (RedundantFlush 3)
  pub first_is_not : ¬ IsFinding clflush_twice (RedundantFlush 2)
  pub kept : KeepsJust clflush_twice (1 ∷ 2 ∷ [])

-- A trace with findings of each kind.
abbrev pub every_finding : Recording
every_finding =
    trace_of (store 0 0x1000 1 ∷ store 0 0x1000 2 ∷ clwb 0 0x1000 ∷ clwb 0 0x1000 ∷ sfence 1 ∷ is_persist 0x1000 ∷ [])

-- Its whole analysis: one line, five findings in report order, one verdict, and what is kept.
abbrev pub EveryFinding : Type 0
EveryFinding =
    IsAnalysis every_finding 1
    (NeverPersisted 1 true ∷ Overwritten 1 2 ∷ NeverPersisted 2 true ∷ RedundantFlush 4 ∷ FenceWithoutFlush 5 ∷ [])
    (record { event = 6; ordered = false; pass = false } ∷ [])
    (1 ∷ 2 ∷ 6 ∷ [])

-- Each worked trace is within the limits of a trace.
abbrev pub WorkedAreTraces : Type 0
WorkedAreTraces =
    IsTrace fence_of_another_thread × IsTrace flushed_by_two_threads × IsTrace two_rounds × IsTrace store_after_flush × IsTrace ordered_by_fence
    × IsTrace ordered_fence_too_late × IsTrace same_byte_twice × IsTrace clflush_beats_clwb × IsTrace double_flush × IsTrace overwritten_before_flush
    × IsTrace order_within_a_line × IsTrace (flushed_further_on 128) × IsTrace (flushed_further_on 64)
    × IsTrace second_byte_again × IsTrace clflush_twice × IsTrace every_finding
