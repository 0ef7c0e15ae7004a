-- What lies under the session's lock, and what its two steps do.
use Rattle.std.specs.Prelude.{◌≡◌, ℕ, ◌<◌, ◌≤◌, true, false, length, Result, Ok, Err}
use Rattle.std.specs.List.{AllByRecursion}
use Rattle.pmt_model.specs.declared.event.Event.{Event}
use Rattle.pmt_model.specs.declared.event.Op.{Op}
use Rattle.pmt_model.specs.Values.{Layout}
use Rattle.pmt_model.specs.Traces.{Recording, in_format, event_limit, with_event}
use Rattle.pmt_book.specs.declared.fault.BookError.{BookError}
use Rattle.pmt_book.specs.declared.fault.BookError.TheVariants.{NotInFormat, Full, OutOfMemory}
use Rattle.pmt_recorder.specs.Strips.{Strip, with_entry, event_of, IsPart}
use Rattle.pmt_recorder.specs.declared.fault.SnapshotError.{SnapshotError}
use Rattle.pmt_recorder.specs.declared.fault.SnapshotError.TheVariants.{Torn, OutOfMemory as NoMemory}

-- What every shelf keeps: its events are those of the session's tapes, as many as the ledger has counted.
pub record IsShelved (tapes : ℕ) (layout : Layout) (counted : ℕ) (book : Recording) : Type 0 where
  pub count : length book.events ≡ counted
  pub format : book.format ≡ layout
  pub whose : AllByRecursion (λ (e : Event). e.thread < tapes) book.events

-- The number of an event of a session: no smaller than the tape is long, since every entry of it is an event of the book.
pub record IsNumber (number : ℕ) (tape : Strip) : Type 0 where
  pub first : 1 ≤ number
  pub last : number ≤ event_limit
  pub enough : length tape.entries ≤ number

-- The event of the tape's thread is the last of the book, and its number and op the last entry of the tape; or both stay, and
-- the first check that failed is told.
abbrev pub Appends : Recording → Strip → Op → Result ℕ BookError → Recording → Strip → Type 0
Appends book tape op (Ok number) new_book new_tape =
    (new_book ≡ with_event book (event_of tape op)) × (number ≡ length new_book.events) × (new_tape ≡ with_entry tape number op)
    × (in_format book.format op ≡ true) × (length book.events < event_limit) × IsNumber number new_tape
Appends book tape op (Err NotInFormat) new_book new_tape = (new_book ≡ book) × (new_tape ≡ tape) × (in_format book.format op ≡ false)
Appends book tape op (Err (Full events)) new_book new_tape =
    (new_book ≡ book) × (new_tape ≡ tape) × (in_format book.format op ≡ true) × (length book.events ≡ event_limit) × (events ≡ event_limit)
Appends book tape op (Err OutOfMemory) new_book new_tape = (new_book ≡ book) × (new_tape ≡ tape) × (in_format book.format op ≡ true)

-- What of this the tape's owner knows, who does not see the book.
abbrev pub Records : Layout → Strip → Op → Result ℕ BookError → Strip → Type 0
Records format tape op (Ok number) new_tape = (new_tape ≡ with_entry tape number op) × (in_format format op ≡ true) × IsNumber number new_tape
Records format tape op (Err NotInFormat) new_tape = (new_tape ≡ tape) × (in_format format op ≡ false)
Records format tape op (Err (Full events)) new_tape = (new_tape ≡ tape) × (in_format format op ≡ true) × (events ≡ event_limit)
Records format tape op (Err OutOfMemory) new_tape = (new_tape ≡ tape) × (in_format format op ≡ true)

-- The book is copied where the tape is its part, and a tape that is not is told.
abbrev pub Shows : Recording → Strip → Result Recording SnapshotError → Type 0
Shows book tape (Ok copy) = (copy ≡ book) × IsPart tape book.events
Shows book tape (Err Torn) = ¬ IsPart tape book.events
Shows book tape (Err NoMemory) = IsPart tape book.events

-- What of this the tape's owner knows: a snapshot has the session's format, events of its tapes alone, and the tape as its part.
pub record IsSnapshot (tapes : ℕ) (layout : Layout) (tape : Strip) (copy : Recording) : Type 0 where
  pub format : copy.format ≡ layout
  pub whose : AllByRecursion (λ (e : Event). e.thread < tapes) copy.events
  pub part : IsPart tape copy.events
