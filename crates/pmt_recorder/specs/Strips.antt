-- What contracts see of a tape, where it lies among the tapes, and what sealing a session gives.
use Rattle.std.specs.Prelude.{◌≡◌, ℕ, zero, suc, ◌+◌, ◌<◌, ◌==◌, Bool, true, if◌then◌else◌, List, [], ◌∷◌, ◌++◌, length, map, Some, slice_get, ◌≤◌}
use Rattle.std.specs.List.{list_any, AllByRecursion}
use Rattle.pmt_model.specs.declared.event.Event.{Event}
use Rattle.pmt_model.specs.declared.event.Op.{Op}
use Rattle.pmt_model.specs.Selections.{part, IsInterleaving}
use Rattle.pmt_model.specs.Values.{Layout}
use Rattle.pmt_model.specs.Traces.{Recording}
use Rattle.pmt_recorder.specs.declared.fault.SealKind.{SealKind}
use Rattle.pmt_recorder.specs.declared.fault.SealKind.TheVariants.{WrongTapes, Torn}

-- A tape: its thread, and the numbers and ops of the events that it appended.
pub record Strip : Type 0 where
  pub thread : ℕ
  pub entries : List (ℕ × Op)

abbrev pub strip : ℕ → List (ℕ × Op) → Strip
strip t entries = record { thread = t; entries = entries }

-- The event that the tape's thread makes by the op.
abbrev pub event_of : Strip → Op → Event
event_of tape op = record { thread = tape.thread; op = op }

-- The tape with one more entry.
abbrev pub with_entry : Strip → ℕ → Op → Strip
with_entry s number op = record { thread = s.thread; entries = s.entries ++ (number, op) ∷ [] }

-- Tapes without entries, of the threads below n, in order.
abbrev pub empty_tapes : ℕ → List Strip
empty_tapes zero = []
empty_tapes (suc n) = empty_tapes n ++ strip n [] ∷ []

-- The tape is its thread's part of the events.
abbrev pub IsPart : Strip → List Event → Type 0
IsPart s events = part s.thread events ≡ s.entries

-- How many entries the tapes have together.
abbrev pub total_length : List Strip → ℕ
total_length [] = 0
total_length (s ∷ strips) = length s.entries + total_length strips

-- Some tape is of thread t.
abbrev pub has_thread : ℕ → List Strip → Bool
has_thread t strips = list_any (λ (s : Strip). s.thread == t) strips

-- There are n tapes, one of each thread below n.
pub record IsOneOfEach (n : ℕ) (strips : List Strip) : Type 0 where
  pub count : length strips ≡ n
  pub each : (t : ℕ) → t < n → has_thread t strips ≡ true

-- The entries of the tape of thread t.
abbrev pub entries_of : ℕ → List Strip → List (ℕ × Op)
entries_of t [] = []
entries_of t (s ∷ strips) = if s.thread == t then s.entries else entries_of t strips

-- The entries of the tapes of the threads below n, in the order of the threads.
abbrev pub by_thread : ℕ → List Strip → List (List (ℕ × Op))
by_thread zero strips = []
by_thread (suc n) strips = by_thread n strips ++ entries_of n strips ∷ []

-- The ops of a tape or a part, in order.
abbrev pub ops_of : List (ℕ × Op) → List Op
ops_of entries = map (λ (e : ℕ × Op). e.1) entries

-- Some tape lies at this place, and this holds of it.
abbrev pub AtPlace : List Strip → ℕ → (Strip → Type 0) → Type 0
AtPlace strips place P = (s : Strip) × (slice_get strips place ≡ Some s) × P s

-- The tape of thread t lies there.
abbrev pub IsPlaceOf : ℕ → List Strip → ℕ → Type 0
IsPlaceOf t strips place = AtPlace strips place (λ s. s.entries ≡ entries_of t strips)

-- The tape there has this as its entry at place k.
abbrev pub HasEntry : List Strip → ℕ → ℕ → ℕ → Op → Type 0
HasEntry strips place k number op = AtPlace strips place (λ s. slice_get s.entries k ≡ Some (number, op))

-- The tape there has n entries.
abbrev pub HasLength : List Strip → ℕ → ℕ → Type 0
HasLength strips place n = AtPlace strips place (λ s. length s.entries ≡ n)

-- The trace is an interleaving of the tapes, of which there is one of each thread.
pub record IsSealed (n : ℕ) (layout : Layout) (strips : List Strip) (T : Recording) : Type 0 where
  pub format : T.format ≡ layout
  pub each : IsOneOfEach n strips
  pub interleaving : IsInterleaving (by_thread n strips) T.events

-- Why no trace was given: the tapes are not one of each thread, or that of thread t, the lowest such, is not its part.
abbrev pub SealFails : ℕ → List Strip → SealKind → Recording → Type 0
SealFails n strips WrongTapes book = ¬ IsOneOfEach n strips
SealFails n strips (Torn t) book =
    (t < n) × IsOneOfEach n strips × (total_length strips ≡ length book.events) × ¬ (part t book.events ≡ entries_of t strips)
    × ((u : ℕ) → u < t → part u book.events ≡ entries_of u strips)

-- The book of a session of n tapes, where these were given: in its format, with events of its tapes alone, and as many of them as
-- the given tapes have entries; or more, those of tapes that were not given, where these are not n.
pub record IsHandedBack (n : ℕ) (layout : Layout) (strips : List Strip) (book : Recording) : Type 0 where
  pub format : book.format ≡ layout
  pub whose : AllByRecursion (λ (e : Event). e.thread < n) book.events
  pub most : total_length strips ≤ length book.events
  pub all : length strips ≡ n → total_length strips ≡ length book.events
