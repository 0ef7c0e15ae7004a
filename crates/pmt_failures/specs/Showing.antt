-- Failed assertions in full, and assertions on bytes that no store has written.
use Rattle.std.specs.Prelude.{ℕ, not, List, map, filter, ◌≡◌, ◌-◌, nat_eq, nat_lt, Bool, false, [], ◌∷◌, length, take, Option, None, Some, unwrap_or, ◌≤◌, ◌/◌, ◌%◌, ◌||◌, if◌then◌else◌, is_some}
use Rattle.pmt_explain.specs.Prelude.{Layout, Span, line_of, Event, Op, Store, Clwb, ClflushOpt, Clflush, Sfence, Mfence, IsPersist, IsOrderedBefore, Recording, event, history, lines_of, All, option_eq, Cause, ByteStore, Failure, Mend, IsFailureAt, mend_of, MendsFailure, Act, last_store, list_any, filter_map, range_with_len, Verdict}
use Rattle.pmt_explain.specs.declared.lines.LineCount.{LineCount}
use Rattle.pmt_explain.specs.CauseOf.{IsCauseOf}
use Rattle.pmt_explain.specs.Crashes.{full_line, line_count, AreCrashBytes}
use Rattle.pmt_explain.specs.Grouping.{Picks}
use Rattle.std.specs.HashMap.{get}
use Rattle.std.specs.Int.{bit_at}
use Rattle.pmt_failures.specs.declared.failures.RangeAfter.{RangeAfter}
use Rattle.pmt_failures.specs.declared.failures.ShownCrash.{ShownCrash}
use Rattle.pmt_failures.specs.declared.failures.ShownFailure.{ShownFailure}
use Rattle.pmt_failures.specs.declared.unwritten.Noted.{Noted}
use Rattle.pmt_failures.specs.declared.unwritten.Unwritten.{Unwritten}
use Rattle.pmt_failures.specs.declared.written.WrittenBytes.{WrittenBytes}

-- The events of the verdicts that fail.
abbrev pub failing_events : List Verdict → List ℕ
failing_events verdicts = map (λ (v : Verdict). v.event) (filter (λ (v : Verdict). not v.pass) verdicts)

-- ---- Failed assertions in full

-- The bytes are what the crash leaves in the range.
abbrev pub IsRangeAfter : Recording → Failure → RangeAfter → Type 0
IsRangeAfter T f r = AreCrashBytes T f.place (full_line T f.kept) r.range r.bytes.items

abbrev pub ranges_in : Op → List Span
ranges_in (Store w) = []
ranges_in (Clwb a) = []
ranges_in (ClflushOpt a) = []
ranges_in (Clflush a) = []
ranges_in Sfence = []
ranges_in Mfence = []
ranges_in (IsPersist r) = r ∷ []
ranges_in (IsOrderedBefore r q) = r ∷ q ∷ []

abbrev pub ranges_of_event : Option Event → List Span
ranges_of_event None = []
ranges_of_event (Some e) = ranges_in e.op

-- For each range of the assertion, what the crash leaves there.
pub record AreRangesAfter (T : Recording) (number : ℕ) (f : Failure) (ranges : List RangeAfter) : Type 0 where
  pub each : All (IsRangeAfter T f) ranges
  pub all : map (λ (r : RangeAfter). r.range) ranges ≡ ranges_of_event (event T number)

abbrev pub stored_line : Layout → Op → Option ℕ
stored_line format (Store w) = Some (line_of format w.addr)
stored_line format (Clwb a) = None
stored_line format (ClflushOpt a) = None
stored_line format (Clflush a) = None
stored_line format Sfence = None
stored_line format Mfence = None
stored_line format (IsPersist r) = None
stored_line format (IsOrderedBefore r q) = None

abbrev pub event_line : Layout → Option Event → Option ℕ
event_line format None = None
event_line format (Some e) = stored_line format e.op

-- The line of store i; none where event i is no store.
abbrev pub store_line : Recording → ℕ → Option ℕ
store_line T i = event_line T.format (event T i)

-- The store that the crash keeps is one to the line of that which it loses.
abbrev pub keeps_same_line : Recording → Option ℕ → Option ByteStore → Bool
keeps_same_line T lost None = false
keeps_same_line T lost (Some kept) = option_eq nat_eq (store_line T kept.store) lost

-- What mends the lost store, for this cause: it has to come before the place of the crash.
abbrev pub failure_mend : Recording → Failure → Cause → Mend
failure_mend T f c =
    let lost : Option ℕ = store_line T f.lost.store in
    mend_of c (unwrap_or lost 0) f.lost.store (Some f.place) (keeps_same_line T lost f.kept)

-- How many stores of each line the crash leaves persisted.
abbrev pub crash_counts : Recording → Failure → List LineCount
crash_counts T f = map (line_count T f.place (full_line T f.kept)) (lines_of (history T f.place))

-- Those of the lines that lose a store.
abbrev pub lines_with_loss : List LineCount → List LineCount
lines_with_loss counts = filter (λ (c : LineCount). nat_lt c.persisted c.stores) counts

-- The assertion fails so: by this crash, which loses the store for this cause, and is no crash where this mend is put in.
pub record IsShown (T : Recording) (s : ShownFailure) : Type 0 where
  pub fails : IsFailureAt T s.event (Some s.failure)
  pub why : IsCauseOf T s.failure.place s.failure.lost.store (Some s.cause)
  pub mend : s.mend ≡ failure_mend T s.failure s.cause
  pub mends : MendsFailure T s.event s.failure s.mend

-- The crash leaves these stores of each of the first lines that lose one, and these bytes; so many more lines lose one, and so many lose none.
pub record IsShownCrash (T : Recording) (c : ShownCrash) : Type 0 where
  pub lines : c.lines.items ≡ take 100 (lines_with_loss (crash_counts T c.shown.failure))
  pub more_lines : c.more_lines ≡ length (lines_with_loss (crash_counts T c.shown.failure)) - 100
  pub whole_lines : c.whole_lines ≡ length (crash_counts T c.shown.failure) - length (lines_with_loss (crash_counts T c.shown.failure))
  pub ranges : AreRangesAfter T c.shown.event c.shown.failure c.ranges.items

-- These are the crashes of the failed assertions, in their order.
pub record AreShownCrashes (T : Recording) (shown : List ShownFailure) (crashes : List ShownCrash) : Type 0 where
  pub each : All (IsShownCrash T) crashes
  pub all : map (λ (c : ShownCrash). c.shown) crashes ≡ shown

-- Event i is an assertion that doesn't pass.
abbrev pub Fails : Recording → ℕ → Type 0
Fails T i = ¬ IsFailureAt T i None

-- Of these events those that fail, in their order, each with its failure in full.
pub record AreShown (T : Recording) (numbers : List ℕ) (shown : List ShownFailure) : Type 0 where
  pub each : All (IsShown T) shown
  pub picked : Picks (Fails T) numbers (map (λ (s : ShownFailure). s.event) shown)

-- ---- Assertions on bytes that no store has written

-- A store of the history writes the byte at b.
abbrev pub is_written : List Act → ℕ → Bool
is_written history b = is_some (last_store b history)

-- The range, if none of its bytes is written.
abbrev pub unless_written : (ℕ → Bool) → Span → Option Span
unless_written written r = if list_any written (range_with_len r.addr r.len) then None else Some r

-- What is told of event i where these are its ranges without a written byte.
abbrev pub entry_of : ℕ → Option Span → Option Span → Option Unwritten
entry_of i first second = if is_some first || is_some second then Some (record { event = i; first = first; second = second }) else None

-- What is told of the op at event i: the range of an assertion, or each of its two, if none of its bytes is written.
abbrev pub op_unwritten : (ℕ → Bool) → ℕ → Op → Option Unwritten
op_unwritten written i (Store w) = None
op_unwritten written i (Clwb a) = None
op_unwritten written i (ClflushOpt a) = None
op_unwritten written i (Clflush a) = None
op_unwritten written i Sfence = None
op_unwritten written i Mfence = None
op_unwritten written i (IsPersist r) = entry_of i (unless_written written r) None
op_unwritten written i (IsOrderedBefore r q) = entry_of i (unless_written written r) (unless_written written q)

abbrev pub event_unwritten : (ℕ → Bool) → ℕ → Option Event → Option Unwritten
event_unwritten written i None = None
event_unwritten written i (Some e) = op_unwritten written i e.op

-- What is told of event i: it is an assertion with a range of which no store before it writes a byte.
abbrev pub unwritten_at : Recording → ℕ → Option Unwritten
unwritten_at T i = event_unwritten (is_written (history T i)) i (event T i)

-- All that is told of the first n events.
abbrev pub unwritten_among : Recording → ℕ → List Unwritten
unwritten_among T n = filter_map (unwritten_at T) (range_with_len 1 n)

-- All that is told of the events, by rising event number.
abbrev pub unwritten_of : Recording → List Unwritten
unwritten_of T = unwritten_among T (length T.events)

-- ---- The bytes that are written, by blocks of 64

-- Which bytes of the block with this number are written: bit k tells it of byte k.
abbrev pub bits_of : WrittenBytes → ℕ → ℕ
bits_of written n = unwrap_or (get nat_eq written.blocks n) 0

-- The byte is one of those that were written.
abbrev pub has_byte : WrittenBytes → ℕ → Bool
has_byte written b = nat_eq (bit_at (bits_of written (b / 64)) (b % 64)) 1

-- Those of the first `noted.count` events are noted, and these are among the first n.
pub record AreNoted (T : Recording) (n : ℕ) (noted : Noted) : Type 0 where
  pub within : noted.count ≤ n
  pub bytes : (b : ℕ) → has_byte noted.bytes b ≡ is_written (history T noted.count) b
