-- The columns of a trace: what is written of all its events, one column of numbers for each property.
use Rattle.std.specs.Prelude.{ℕ, ◌+◌, ◌-◌, nat_lt, ◌==◌, if◌then◌else◌, List, [], ◌∷◌, ◌++◌, map, nat_le, Bool, true, false, length, codes, Option, None, Some}
use Rattle.std.specs.List.{flat_map}
use Rattle.std.specs.Int.Digits.{digits_of}
use Rattle.pmt_text.specs.Prelude.{Event, Op, Store, Clwb, ClflushOpt, Clflush, Sfence, Mfence, IsPersist, IsOrderedBefore, Verdict}
use Rattle.pmt_text.specs.Spelling.{hex_bytes}
use Rattle.pmt_reasons.specs.declared.reason.Reason.{Reason}
use Rattle.pmt_explain.specs.declared.dropped_event.Dropped.{Dropped}
use Rattle.pmt_page.specs.declared.events.NumberColumn.{NumberColumn}
use Rattle.pmt_page.specs.declared.events.NumberColumn.TheVariants.{Thread, Address, Length, SecondAddress, SecondLength}
use Rattle.pmt_page.specs.declared.known.Kept.{Kept}
use Rattle.pmt_page.specs.declared.known.Kept.TheVariants.{Whole, WithoutValues, WithoutRanges}
use Rattle.pmt_page.specs.declared.known.SafePlace.{SafePlace}
use Rattle.pmt_reasons.specs.declared.reason.Reason.TheVariants as reason

-- The character of a digit below 64: 0 to 9, a to z, A to Z, _ and $.
abbrev pub digit : ℕ → ℕ
digit d = if nat_lt d 10 then 48 + d else (if nat_lt d 36 then 87 + d else (if nat_lt d 62 then 29 + d else (if d == 62 then 95 else 36)))

-- A number in base 64, the most significant digit first; 0 has none.
abbrev pub short : ℕ → List ℕ
short n = map digit (digits_of 64 n)

-- How far it is from one number to the next, with a - before the way back.
abbrev pub step : ℕ → ℕ → List ℕ
step before n = if nat_lt n before then 45 ∷ short (before - n) else short (n - before)

-- The steps from this number through the others, each with a comma behind it.
abbrev pub steps : ℕ → List ℕ → List ℕ
steps before [] = []
steps before (n ∷ ns) = (step before n ++ 44 ∷ []) ++ steps n ns

-- Items with commas between them.
abbrev pub listed : {A : Type 0} → (A → List ℕ) → List A → List ℕ
listed spell [] = []
listed spell (x ∷ xs) = spell x ++ flat_map (λ y. 44 ∷ spell y) xs

-- ---- The columns of a trace: what is written of all its events, one column for each property

-- ---- Of one event

-- S, C, O, F, s, m, P and B.
abbrev pub op_letter : Op → ℕ
op_letter (Store w) = 83
op_letter (Clwb a) = 67
op_letter (ClflushOpt a) = 79
op_letter (Clflush a) = 70
op_letter Sfence = 115
op_letter Mfence = 109
op_letter (IsPersist r) = 80
op_letter (IsOrderedBefore r q) = 66

-- What of a trace is in its columns besides all else.
abbrev pub has_values : Kept → Bool
has_values Whole = true
has_values WithoutValues = false
has_values WithoutRanges = false

abbrev pub has_ranges : Kept → Bool
has_ranges Whole = true
has_ranges WithoutValues = true
has_ranges WithoutRanges = false

-- The number of an assertion's range, if these are wanted.
abbrev pub of_range : Bool → ℕ → List ℕ
of_range wanted n = if wanted then n ∷ [] else []

-- Where there is one; of two ranges the first one's.
abbrev pub first_address : Bool → Op → List ℕ
first_address wanted (Store w) = w.addr ∷ []
first_address wanted (Clwb a) = a ∷ []
first_address wanted (ClflushOpt a) = a ∷ []
first_address wanted (Clflush a) = a ∷ []
first_address wanted Sfence = []
first_address wanted Mfence = []
first_address wanted (IsPersist r) = of_range wanted r.addr
first_address wanted (IsOrderedBefore r q) = of_range wanted r.addr

abbrev pub first_length : Bool → Op → List ℕ
first_length wanted (Store w) = (length w.bytes) ∷ []
first_length wanted (IsPersist r) = of_range wanted r.len
first_length wanted (IsOrderedBefore r q) = of_range wanted r.len
first_length wanted o = []

abbrev pub second_address : Bool → Op → List ℕ
second_address wanted (IsOrderedBefore r q) = of_range wanted q.addr
second_address wanted o = []

abbrev pub second_length : Bool → Op → List ℕ
second_length wanted (IsOrderedBefore r q) = of_range wanted q.len
second_length wanted o = []

-- What an event adds to a column of numbers.
abbrev pub numbers_of : Bool → NumberColumn → Event → List ℕ
numbers_of wanted Thread e = e.thread ∷ []
numbers_of wanted Address e = first_address wanted e.op
numbers_of wanted Length e = first_length wanted e.op
numbers_of wanted SecondAddress e = second_address wanted e.op
numbers_of wanted SecondLength e = second_length wanted e.op

abbrev pub stored_bytes : Op → List ℕ
stored_bytes (Store w) = w.bytes
stored_bytes o = []

-- Whether it is a flush or a fence.
abbrev pub may_be_dropped : Op → Bool
may_be_dropped (Store w) = false
may_be_dropped (IsPersist r) = false
may_be_dropped (IsOrderedBefore r q) = false
may_be_dropped o = true

-- ---- Of one verdict, one safe place, one dropped event

abbrev pub verdict_letter : Verdict → ℕ
verdict_letter v = if v.pass then 112 else 102

-- From how many events after its own number on the store is safe; - where it never is.
abbrev pub delay : ℕ → Option ℕ → List ℕ
delay store None = 45 ∷ []
delay store (Some place) = short (place - store)

abbrev pub safe_field : SafePlace → List ℕ
safe_field s = delay s.store s.place

abbrev pub reason_letter : Reason → ℕ
reason_letter reason.Safe = 115
reason_letter reason.Unfenced = 117
reason_letter (reason.Repeated by) = 114
reason_letter (reason.Overtaken by) = 111
reason_letter reason.Empty = 101
reason_letter reason.Useless = 122

-- Why the event with this number is dropped; - where it is not listed.
abbrev pub dropped_letter : List Dropped → ℕ → ℕ
dropped_letter [] number = 45
dropped_letter (d ∷ list) number = if d.event == number then reason_letter d.reason else dropped_letter list number

-- Of each flush and fence among these events, the first of which has this number.
abbrev pub dropped_letters : List Dropped → ℕ → List Event → List ℕ
dropped_letters list number [] = []
dropped_letters list number (e ∷ es) =
    if may_be_dropped e.op then dropped_letter list number ∷ dropped_letters list (number + 1) es else dropped_letters list (number + 1) es

-- ---- Of all events

abbrev pub op_column : List Event → List ℕ
op_column events = map (λ e. op_letter e.op) events

-- A column of numbers, with those of the ranges of assertions or without.
abbrev pub number_column : Bool → NumberColumn → List Event → List ℕ
number_column wanted column events = steps 0 (flat_map (numbers_of wanted column) events)

-- The bytes of the stores; nothing, where they are left out.
abbrev pub value_column : Bool → List Event → List ℕ
value_column wanted events = if wanted then flat_map (λ e. hex_bytes (stored_bytes e.op)) events else []

-- The columns of the ranges of the events.
abbrev pub range_columns : Bool → List Event → List ℕ
range_columns wanted events =
    codes "\",\"address\":\"" ++ number_column wanted Address events
    ++ codes "\",\"length\":\"" ++ number_column wanted Length events
    ++ codes "\",\"address2\":\"" ++ number_column wanted SecondAddress events
    ++ codes "\",\"length2\":\"" ++ number_column wanted SecondLength events

-- The columns of the events themselves.
abbrev pub event_columns : Bool → List Event → List ℕ
event_columns wanted events =
    codes "{\"op\":\"" ++ op_column events
    ++ codes "\",\"thread\":\"" ++ number_column wanted Thread events
    ++ range_columns wanted events

-- The columns of what is found of them.
abbrev pub found_columns : List Event → List SafePlace → List Verdict → List Dropped → List ℕ
found_columns events safe verdicts dropped =
    codes "\",\"safe\":\"" ++ listed safe_field safe
    ++ codes "\",\"verdict\":\"" ++ map verdict_letter verdicts
    ++ codes "\",\"dropped\":\"" ++ dropped_letters dropped 1 events
    ++ codes "\"}"

-- The columns as JSON, with the ranges of assertions and the bytes of stores or without.
unfoldable pub columns_with : Bool → Bool → List Event → List SafePlace → List Verdict → List Dropped → List ℕ
columns_with ranges values events safe verdicts dropped =
    event_columns ranges events
    ++ codes "\",\"value\":\"" ++ value_column values events
    ++ found_columns events safe verdicts dropped

-- The columns with what is kept.
abbrev pub columns : Kept → List Event → List SafePlace → List Verdict → List Dropped → List ℕ
columns kept events safe verdicts dropped = columns_with (has_ranges kept) (has_values kept) events safe verdicts dropped

-- What is kept where so many bytes are the most: all, or else all but the bytes of stores; where these are too long too, the ranges of
-- assertions are left out besides.
abbrev pub kept_by : ℕ → List Event → List SafePlace → List Verdict → List Dropped → Kept
kept_by most events safe verdicts dropped =
    if nat_le (length (columns Whole events safe verdicts dropped)) most
    then Whole
    else (if nat_le (length (columns WithoutValues events safe verdicts dropped)) most then WithoutValues else WithoutRanges)
