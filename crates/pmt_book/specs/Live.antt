-- What a book knows of the lines of a trace under way, and what one more event makes of it.
use Rattle.std.specs.Prelude.{ℕ, ◌<◌, List, length, ◌≤◌, ◌↔◌, ◌≡◌, true, false, Result, Ok, Err, zero, suc, ◌+◌, ◌==◌, ◌&&◌, nat_lt, not, Bool, if◌then◌else◌, [], ◌∷◌, Option, Some, None}
use Rattle.pmt_laws.specs.Prelude.{Act, count, event_limit, lines_of, front, Span, Recording, history, count_at, VectorsAt, front_at, PersistPasses, Event, Op, in_format, with_event, Written, Stores, Flushes, Clflushes, Fences, Asserts}
use Rattle.pmt_rows.specs.Known.{AreRows}
use Rattle.pmt_rows.specs.Waiting.{AreWaitingBy}
use Rattle.pmt_book.specs.declared.live.LiveLines.{LiveLines}
use Rattle.pmt_book.specs.declared.fault.BookError.{BookError}
use Rattle.pmt_book.specs.declared.fault.BookError.TheVariants.{NotInFormat, Full, OutOfMemory}

-- These are known after the history: lines with a slot, among them all that have a store, each with its count and its front, and the
-- flushes of each thread since its last fence, each with the slot of its line.
pub record IsLiveWith (lines : List ℕ) (h : List Act) (live : LiveLines) : Type 0 where
  pub rows : AreRows lines (λ l. count l h) (λ l. front l h) (λ l. 0) live.rows
  pub waiting : AreWaitingBy count lines h live.waiting

-- They are known after the history, and the lines with a slot are those that were stored or flushed, in order of first appearance.
abbrev pub IsLive : List Act → LiveLines → Type 0
IsLive h live = IsLiveWith (lines_of h) h live

-- They are known after some history.
abbrev pub IsKnown : LiveLines → Type 0
IsKnown live = (lines : List ℕ) × (h : List Act) × IsLiveWith lines h live

-- They are known after some history that is shorter than a trace may be.
abbrev pub HasRoom : LiveLines → Type 0
HasRoom live = (lines : List ℕ) × (h : List Act) × (length h < event_limit) × IsLiveWith lines h live

-- What is known is known as before.
abbrev pub Keeps : LiveLines → LiveLines → Type 0
Keeps old new = (lines : List ℕ) (h : List Act) → IsLiveWith lines h old → IsLiveWith lines h new

-- The history of all its events.
abbrev pub whole_history : Recording → List Act
whole_history T = history T (length T.events)

-- The front of line l after all its events.
abbrev pub last_front : Recording → ℕ → ℕ
last_front T l = front_at T l (length T.events)

-- How many stores to line l it has.
abbrev pub last_count : Recording → ℕ → ℕ
last_count T l = count_at T l (length T.events)

-- The ends of the runs of its events have just the counts of persisted stores that lie, line by line, between the front and the
-- number of stores.
abbrev pub EndsAreBetween : Recording → Type 0
EndsAreBetween T = (v : ℕ → ℕ) → VectorsAt T (length T.events) v ↔ ((l : ℕ) → (last_front T l ≤ v l) × (v l ≤ last_count T l))

-- An isPersist of this range, after all its events, would pass.
abbrev pub PassesNow : Recording → Span → Type 0
PassesNow T range = PersistPasses (whole_history T) range

-- ---- What adding an event to a book answers, and what the book is then

abbrev pub event_by : ℕ → Op → Event
event_by t op = record { thread = t; op = op }

-- The event is the last one, and its number is told; or the book stays, and the first check that failed is told.
abbrev pub AddsEvent : Recording → Event → Result ℕ BookError → Recording → Type 0
AddsEvent T e (Ok number) new =
    (in_format T.format e.op ≡ true) × (length T.events < event_limit) × (number ≡ length new.events) × (new ≡ with_event T e)
AddsEvent T e (Err NotInFormat) new = (in_format T.format e.op ≡ false) × (new ≡ T)
AddsEvent T e (Err (Full events)) new =
    (in_format T.format e.op ≡ true) × (length T.events ≡ event_limit) × (events ≡ event_limit) × (new ≡ T)
AddsEvent T e (Err OutOfMemory) new = (in_format T.format e.op ≡ true) × (length T.events < event_limit) × (new ≡ T)

-- ---- Whether the newest stores to a line write a byte of a range

-- The store writes a byte of the range.
abbrev pub touches : Written → Span → Bool
touches w A = nat_lt w.addr (A.addr + A.len) && nat_lt A.addr (w.addr + length w.bytes)

-- What the act stores to line l, if it is a store to it.
abbrev pub store_on : ℕ → Act → Option Written
store_on l (Stores k w) = if k == l then Some w else None
store_on l (Flushes t k) = None
store_on l (Clflushes k) = None
store_on l (Fences t) = None
store_on l Asserts = None

abbrev pub none_touches_next : Option Written → Span → Bool → Bool → Bool
none_touches_next None A fewer same = same
none_touches_next (Some w) A fewer same = not (touches w A) && fewer

-- None of the newest n stores to line l writes a byte of the range.
abbrev pub none_touches : ℕ → ℕ → Span → List Act → Bool
none_touches zero l A history = true
none_touches (suc n) l A [] = true
none_touches (suc n) l A (a ∷ history) = none_touches_next (store_on l a) A (none_touches n l A history) (none_touches (suc n) l A history)
