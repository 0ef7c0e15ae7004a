-- Traces: their numbered events, what a crash at a place leaves, and what one more event gives.
use Rattle.std.specs.Prelude.{◌≡◌, ℕ, zero, suc, ◌<◌, ◌≤◌, ◌==◌, ◌||◌, Bool, true, false, if◌then◌else◌, List, [], ◌∷◌, ◌++◌, length, Option, Some, None, slice_get, take, map, reverse, Result, Ok, Err}
use Rattle.std.specs.List.{AllByRecursion}
use Rattle.pmt_model.specs.declared.event.Event.{Event}
use Rattle.pmt_model.specs.declared.event.Op.{Op}
use Rattle.pmt_model.specs.declared.event.Op.TheVariants.{Store, Clwb, ClflushOpt, Clflush, Sfence, Mfence, IsPersist, IsOrderedBefore}
use Rattle.pmt_model.specs.Values.{IsFormat, Layout, line_of, IsStore, IsAddress, IsRange}
use Rattle.pmt_model.specs.Machine.{Act, Stores, Flushes, Clflushes, Fences, Asserts, Image, count, Crash, Vectors}
use Rattle.pmt_model.specs.declared.fault.PushError.{PushError}
use Rattle.pmt_model.specs.declared.fault.PushError.TheVariants.{NotInFormat, Full, OutOfMemory}

-- What contracts see of a trace.
pub record Recording : Type 0 where
  pub format : Layout
  pub events : List Event

-- The op is in the format: clflush and mfence came with version 2.
abbrev pub in_format : Layout → Op → Bool
in_format f (Store w) = true
in_format f (Clwb a) = true
in_format f (ClflushOpt a) = true
in_format f (Clflush a) = f.version == 2
in_format f Sfence = true
in_format f Mfence = f.version == 2
in_format f (IsPersist r) = true
in_format f (IsOrderedBefore r q) = true

-- The addresses, bytes and lengths of an op are within their limits.
abbrev pub IsOp : Op → Type 0
IsOp (Store w) = IsStore w
IsOp (Clwb a) = IsAddress a
IsOp (ClflushOpt a) = IsAddress a
IsOp (Clflush a) = IsAddress a
IsOp Sfence = Unit {0}
IsOp Mfence = Unit {0}
IsOp (IsPersist r) = IsRange r
IsOp (IsOrderedBefore r q) = IsRange r × IsRange q

pub record IsEvent (e : Event) : Type 0 where
  pub thread : e.thread < 256
  pub op : IsOp e.op

-- An event of a trace of this format.
pub record IsEventIn (f : Layout) (e : Event) : Type 0 where
  pub event : IsEvent e
  pub known : in_format f e.op ≡ true

abbrev pub event_limit : ℕ
event_limit = 1000000

-- What every value of type Trace keeps.
pub record IsTrace (T : Recording) : Type 0 where
  pub format : IsFormat T.format
  pub few : length T.events ≤ event_limit
  pub each : AllByRecursion (IsEventIn T.format) T.events

-- What an op by the thread is to the machine.
abbrev pub act_of : Layout → ℕ → Op → Act
act_of f t (Store w) = Stores (line_of f w.addr) w
act_of f t (Clwb a) = Flushes t (line_of f a)
act_of f t (ClflushOpt a) = Flushes t (line_of f a)
act_of f t (Clflush a) = Clflushes (line_of f a)
act_of f t Sfence = Fences t
act_of f t Mfence = Fences t
act_of f t (IsPersist r) = Asserts
act_of f t (IsOrderedBefore r q) = Asserts

abbrev pub act : Layout → Event → Act
act f e = act_of f e.thread e.op

-- The event with this number, the first having the number 1.
abbrev pub event : Recording → ℕ → Option Event
event T zero = None
event T (suc i) = slice_get T.events i

-- Event number i is this act.
abbrev pub IsAct : Recording → ℕ → Act → Type 0
IsAct T i a = (e : Event) × (event T i ≡ Some e) × (act T.format e ≡ a)

-- Place n is the moment after the first n events: their acts, the newest first.
abbrev pub history : Recording → ℕ → List Act
history T n = reverse (map (act T.format) (take n T.events))

-- The number of stores to line l among the first n events; of a store at n to l, its rank.
abbrev pub count_at : Recording → ℕ → ℕ → ℕ
count_at T l n = count l (history T n)

-- A crash after n events may leave this image.
abbrev pub CrashAt : Recording → ℕ → Image → Type 0
CrashAt T n = Crash (history T n)

-- A crash after n events may leave these counts of persisted stores.
abbrev pub VectorsAt : Recording → ℕ → (ℕ → ℕ) → Type 0
VectorsAt T n = Vectors (history T n)

abbrev pub has_line : ℕ → List ℕ → Bool
has_line l [] = false
has_line l (k ∷ ks) = (k == l) || has_line l ks

abbrev pub with_line : ℕ → List ℕ → List ℕ
with_line l lines = if has_line l lines then lines else lines ++ l ∷ []

-- The lines that are stored or flushed, in order of first appearance.
abbrev pub lines_of : List Act → List ℕ
lines_of [] = []
lines_of (Stores l w ∷ history) = with_line l (lines_of history)
lines_of (Flushes t l ∷ history) = with_line l (lines_of history)
lines_of (Clflushes l ∷ history) = with_line l (lines_of history)
lines_of (Fences t ∷ history) = lines_of history
lines_of (Asserts ∷ history) = lines_of history

-- ---- What adding an event to a trace gives

abbrev pub empty : Layout → Recording
empty format = record { format = format; events = [] }

-- The trace with the event at its end.
abbrev pub with_event : Recording → Event → Recording
with_event T e = record { format = T.format; events = T.events ++ e ∷ [] }

-- The trace with more events at its end.
abbrev pub with_events : Recording → List Event → Recording
with_events T more = record { format = T.format; events = T.events ++ more }

-- The event is added, or the trace stays and the first check that failed is told.
abbrev pub PushGives : Recording → Event → Result (Unit {0}) PushError → Recording → Type 0
PushGives T e (Ok u) new = (in_format T.format e.op ≡ true) × (length T.events < event_limit) × (new ≡ with_event T e)
PushGives T e (Err NotInFormat) new = (in_format T.format e.op ≡ false) × (new ≡ T)
PushGives T e (Err Full) new = (in_format T.format e.op ≡ true) × (length T.events ≡ event_limit) × (new ≡ T)
PushGives T e (Err OutOfMemory) new = (in_format T.format e.op ≡ true) × (length T.events < event_limit) × (new ≡ T)
