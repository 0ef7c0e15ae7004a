-- What a reader of one pass takes of lines that are spelled rightly.
use Rattle.std.specs.Prelude.{◌≡◌, ℕ, List, [], ◌∷◌, ◌++◌, get_or, take, zero, suc, ◌≤◌, Bool, true, false, Option, Some, None, length, drop}
use Rattle.std.specs.Int.{to_le_bytes, w64}
use Rattle.pmt_text.specs.Prelude.{Event, Store, Layout, IsEventIn, Recording, with_event, with_events}
use Rattle.std.specs.List.{AllByRecursion, flat_map}
use Rattle.std.specs.Borrow.{Bor}
use Rattle.pmt_text.specs.declared.spelled.SpelledStore.{SpelledStore}
use Rattle.pmt_text.specs.declared.word.Word.{Word}
use Rattle.pmt_text.specs.Spelling.{address, hex_bytes, numeral, word_of, arguments_of, event_text, spaced}

-- an address and a length, with a space between them
abbrev pub spelled_span : ℕ → ℕ → List ℕ
spelled_span a n = address a ++ 32 ∷ numeral 10 n

-- after the word and a space the text has the rest of the event's line, and then this
abbrev pub IsAfterWord : Word → List ℕ → Event → List ℕ → Type 0
IsAfterWord w text e rest = (word_of e.op ≡ w) × (text ≡ numeral 10 e.thread ++ spaced (arguments_of e.op) ++ 10 ∷ rest)

-- the text has the line of this event of the format first, and then this
abbrev pub IsFirstEvent : Layout → Event → List ℕ → List ℕ → Type 0
IsFirstEvent f e text rest = IsEventIn f e × (text ≡ event_text e ++ rest)

-- the first four bytes
abbrev pub front_four : List ℕ → List ℕ
front_four cs = get_or cs 0 0 ∷ get_or cs 1 0 ∷ get_or cs 2 0 ∷ get_or cs 3 0 ∷ []

-- the bytes of a store
abbrev pub bytes_of : SpelledStore → List ℕ
bytes_of s = take s.len (to_le_bytes w64 s.number)

-- what its line has after the word and a space, but for the LF
abbrev pub spelled_store : SpelledStore → List ℕ
spelled_store s = numeral 10 s.thread ++ spaced (address s.addr ∷ hex_bytes (bytes_of s) ∷ [])

-- its event
abbrev pub IsEventOfStore : SpelledStore → Event → Type 0
IsEventOfStore s e = (e.thread ≡ s.thread) × (e.op ≡ Store (record { addr = s.addr; bytes = bytes_of s }))

-- ---- Events that are taken one after another from lines that are spelled rightly

-- The event is put at the trace's end, if it is of the trace's format; else the trace stays.
abbrev pub Adds : Event → Bool → Recording → Recording → Type 0
Adds e true T new = IsEventIn T.format e × (new ≡ with_event T e)
Adds e false T new = new ≡ T

-- The event of the store is put at the trace's end, or the trace stays.
abbrev pub AddsStore : SpelledStore → Bool → Recording → Recording → Type 0
AddsStore s true T new = (e : Event) × IsEventOfStore s e × IsEventIn T.format e × (new ≡ with_event T e)
AddsStore s false T new = new ≡ T

-- The event of the line that stands first and has so many bytes is put at the trace's end; the trace stays if there are none.
abbrev pub AddsLine : List ℕ → ℕ → Recording → Recording → Type 0
AddsLine text zero T new = new ≡ T
AddsLine text (suc n) T new = (e : Event) × (suc n ≤ length text) × IsFirstEvent T.format e text (drop (suc n) text) × (new ≡ with_event T e)

-- The event of the line that stands first is put at the trace's end, and this stands after the line; else the trace stays.
abbrev pub AddsFirst : List ℕ → Option (Bor (List ℕ)) → Recording → Recording → Type 0
AddsFirst text None T new = new ≡ T
AddsFirst text (Some rest) T new = (e : Event) × IsFirstEvent T.format e text rest.now × (new ≡ with_event T e)

-- The text has the lines of these events first, and then this; they were put at the end of the trace.
pub record AreFirstEvents (text rest : List ℕ) (before after : Recording) : Type 0 where
  pub events : List Event
  pub in_format : AllByRecursion (IsEventIn before.format) events
  pub spelled : text ≡ flat_map event_text events ++ rest
  pub added : after ≡ with_events before events
