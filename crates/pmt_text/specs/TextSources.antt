-- What a source over a text gives, and that it keeps the laws of sources.
use Rattle.std.specs.Prelude.{ℕ, ◌-◌, ◌≤◌, List, [], Option, Some, None, option_map, Result, Ok, Err, ◌≡◌, ◌+◌, Bool, true, false, nat_lt, if◌then◌else◌, ◌∷◌, length, IfSome, IfOk, is_some, refl}
use Rattle.std.proofs.Common.{arith}
use Rattle.pmt_text.specs.Prelude.{Layout, event_limit, IsEventIn, Event}
use Rattle.std.specs.List.{AllByRecursion}
use Rattle.std.proofs.lemmas.Bool.{ltb-true}
use Rattle.pmt_text.specs.declared.kind.SourceError.{SourceError}
use Rattle.pmt_text.specs.declared.source.SourceState.{SourceState}
use Rattle.pmt_text.specs.declared.source.SourceState.TheVariants.{Open, Ended, Failed}
use Rattle.pmt_text.specs.declared.counted.Counted.{Counted}
use Rattle.pmt_text.specs.declared.line_reader.LineReader.{LineReader}
use Rattle.pmt_text.specs.declared.text_source.TextSource.{TextSource}
use Rattle.pmt_text.specs.Counting.{failure_count}
use Rattle.pmt_text.specs.Judging.{line_judged}
use Rattle.pmt_text.specs.Coming.{Coming, text_lines, lines_coming, trace_coming, with_format, ends_with, Items, item_then, fault_at, lines_of_trace, header_then, format_in}
use Rattle.pmt_text.specs.Sources.{HasFormat, Gives, Faults, AreOf}
use Rattle.pmt_text.specs.Lines.{Ahead, ahead, last_line}
use Rattle.pmt_text.specs.Within.{HasReadIn}
use Rattle.pmt_text.specs.declared.kind.TextKind.{TextKind}
use Rattle.pmt_text.specs.declared.kind.TextKind.TheVariants.{TooManyEvents}
use Rattle.pmt_text.specs.JudgedEvents.{allowed_line}

-- what comes from the bytes ahead: from the header on, or, where it was read, from the event after those that were given
abbrev pub coming_of : Option Layout → ℕ → Ahead → Coming
coming_of None given a = trace_coming a.more a.bytes
coming_of (Some f) given a = with_format f (lines_coming (line_judged f) a.more 2 given (text_lines a.bytes))

-- the end alone
abbrev pub end_of : Option Layout → Option Coming
end_of format = option_map (λ f. with_format f (ends_with None)) format

-- what comes while the source is open, after its end, and after a fault
abbrev pub coming_in : SourceState → Option Coming → Option Layout → Option Coming
coming_in Open known format = known
coming_in Ended known format = end_of format
coming_in (Failed fault) known format = None

-- what the header takes: what comes after it is that of its format
abbrev pub TakesHeader : Option Coming → Result Layout SourceError → (Layout → Option Coming) → Type 0
TakesHeader old (Ok f) later = HasFormat old (Some f) × Gives old [] (later f)
TakesHeader old (Err e) later = Faults old e

module _ {R : Type 0} where
  -- what comes from a reader of lines
  abbrev pub coming_from : (R → Option (List ℕ)) → Option Layout → ℕ → LineReader R → Option Coming
  coming_from remaining format given lines = option_map (coming_of format given) (ahead remaining lines)

  abbrev pub text_coming : (R → Option (List ℕ)) → TextSource R → Option Coming
  text_coming remaining s = coming_in s.state (coming_from remaining s.format s.given s.lines) s.format

  -- what it told
  abbrev pub text_state : TextSource R → SourceState
  text_state s = s.state

  -- the format, once the header is read
  abbrev pub text_format : TextSource R → Option Layout
  text_format s = s.format

  -- at most so many events are still to come
  abbrev pub text_room : TextSource R → ℕ
  text_room s = event_limit - s.given

  -- how many events it gave
  abbrev pub text_given : TextSource R → ℕ
  text_given s = s.given

  -- its reader
  abbrev pub text_input : TextSource R → Counted R
  text_input s = s.lines.input

  abbrev pub text_failures : TextSource R → Option ℕ
  text_failures s = Some (failure_count (text_input s))

  -- the line of the event that it gave last
  abbrev pub text_lent : TextSource R → Option (List ℕ)
  text_lent s = last_line s.lines

  -- what it has read of a device that gave these bytes at first
  abbrev pub text_within : (R → Option (List ℕ)) → TextSource R → Option (List ℕ) → Type 0
  text_within remaining s first = HasReadIn remaining first s.state s.lines

  pub text_few : (s : TextSource R) → text_room s ≤ event_limit
  text_few s = omega arith

-- ---- A source over a text keeps the laws of sources

-- a line gives at most one event, and none where a million stand before it
few_then : (line given : ℕ) (r : Result Event TextKind) (later : Items Event) → length later.items ≤ event_limit - (given + 1) → length (item_then line given r later).items ≤ event_limit - given
few_then line given (Err kind) later few = omega arith
few_then line given (Ok e) later few = by_test (nat_lt given event_limit) refl where
  by_test : (t : Bool) → nat_lt given event_limit ≡ t
      → length (let o : Items Event = if t then record { items = e ∷ later.items; fault = later.fault } else ends_with (Some (fault_at line TooManyEvents)) in o).items ≤ event_limit - given
  by_test true lt = let below = ltb-true given event_limit lt in omega (arith, below, few)
  by_test false lt = omega arith

few_lines : (f : Layout) (more : Bool) (given : ℕ) (lines : List (List ℕ)) → length (lines_coming (line_judged f) more 2 given lines).items ≤ event_limit - given
unfolding lines_coming
few_lines f more given [] = omega arith
few_lines f more given (rest ∷ []) = omega arith
few_lines f more given (line ∷ next ∷ tail) =
    few_then (2 + given) given (line_judged f line) (lines_coming (line_judged f) more 2 (given + 1) (next ∷ tail)) (few_lines f more (given + 1) (next ∷ tail))

few_after : (more : Bool) (format : Option Layout) (lines : List (List ℕ)) → length (header_then format more lines).events ≤ event_limit
few_after more None lines = omega arith
few_after more (Some f) lines = few_lines f more 0 lines

few_trace : (more : Bool) (lines : List (List ℕ)) → length (lines_of_trace more lines).events ≤ event_limit
few_trace more [] = omega arith
few_trace more (rest ∷ []) = omega arith
few_trace more (line ∷ next ∷ tail) = few_after more (format_in line) (next ∷ tail)

few_coming : (format : Option Layout) (given : ℕ) (a : Ahead) → (is_some format ≡ false → given ≡ 0) → length (coming_of format given a).events ≤ event_limit - given
unfolding trace_coming
few_coming None given a fresh = let none = fresh refl in let few = few_trace a.more (text_lines a.bytes) in omega (arith, none, few)
few_coming (Some f) given a fresh = few_lines f a.more given (text_lines a.bytes)

few_from : (format : Option Layout) (given : ℕ) (a : Option Ahead) → (is_some format ≡ false → given ≡ 0) → IfSome (option_map (coming_of format given) a) (λ c. length c.events ≤ event_limit - given)
few_from format given None fresh = tt
few_from format given (Some a) fresh = few_coming format given a fresh

few_end : (format : Option Layout) (room : ℕ) → IfSome (end_of format) (λ c. length c.events ≤ room)
few_end None room = tt
few_end (Some f) room = omega arith

few_in : (state : SourceState) (known : Option Coming) (format : Option Layout) (room : ℕ) → IfSome known (λ c. length c.events ≤ room) → IfSome (coming_in state known format) (λ c. length c.events ≤ room)
few_in Open known format room few = few
few_in Ended known format room few = few_end format room
few_in (Failed fault) known format room few = tt

abbrev IsOf : Option Layout → Option Coming → Type 0
IsOf format known = IfSome known (λ c. IfSome format (λ f. c.format ≡ Some f))

of_from : (format : Option Layout) (given : ℕ) (a : Option Ahead) → IsOf format (option_map (coming_of format given) a)
of_from format given None = tt
of_from None given (Some a) = tt
of_from (Some f) given (Some a) = refl

of_end : (format : Option Layout) → IsOf format (end_of format)
of_end None = tt
of_end (Some f) = refl

of_in : (state : SourceState) (known : Option Coming) (format : Option Layout) → IsOf format known → IsOf format (coming_in state known format)
of_in Open known format is = is
of_in Ended known format is = of_end format
of_in (Failed fault) known format is = tt

-- a line that gives an event gives one of the format
of_then : (f : Layout) (line given : ℕ) (r : Result Event TextKind) (later : Items Event) → IfOk r (IsEventIn f) → AllByRecursion (IsEventIn f) later.items → AllByRecursion (IsEventIn f) (item_then line given r later).items
of_then f line given (Err kind) later is each = tt
of_then f line given (Ok e) later is each = by_test (nat_lt given event_limit) where
  by_test : (t : Bool)
      → AllByRecursion (IsEventIn f) (let o : Items Event = if t then record { items = e ∷ later.items; fault = later.fault } else ends_with (Some (fault_at line TooManyEvents)) in o).items
  by_test true = (is, each)
  by_test false = tt

of_lines : (f : Layout) (more : Bool) (given : ℕ) (lines : List (List ℕ)) → AllByRecursion (IsEventIn f) (lines_coming (line_judged f) more 2 given lines).items
unfolding lines_coming
of_lines f more given [] = tt
of_lines f more given (rest ∷ []) = tt
of_lines f more given (line ∷ next ∷ tail) =
    of_then f (2 + given) given (line_judged f line) (lines_coming (line_judged f) more 2 (given + 1) (next ∷ tail)) (allowed_line f line (line_judged f line) refl) (of_lines f more (given + 1) (next ∷ tail))

abbrev AreTheirs : Coming → Type 0
AreTheirs c = AreOf c.format c.events

theirs_after : (more : Bool) (format : Option Layout) (lines : List (List ℕ)) → AreTheirs (header_then format more lines)
theirs_after more None lines = refl
theirs_after more (Some f) lines = of_lines f more 0 lines

theirs_trace : (more : Bool) (lines : List (List ℕ)) → AreTheirs (lines_of_trace more lines)
theirs_trace more [] = refl
theirs_trace more (rest ∷ []) = refl
theirs_trace more (line ∷ next ∷ tail) = theirs_after more (format_in line) (next ∷ tail)

theirs_coming : (format : Option Layout) (given : ℕ) (a : Ahead) → AreTheirs (coming_of format given a)
unfolding trace_coming
theirs_coming None given a = theirs_trace a.more (text_lines a.bytes)
theirs_coming (Some f) given a = of_lines f a.more given (text_lines a.bytes)

theirs_from : (format : Option Layout) (given : ℕ) (a : Option Ahead) → IfSome (option_map (coming_of format given) a) AreTheirs
theirs_from format given None = tt
theirs_from format given (Some a) = theirs_coming format given a

theirs_end : (format : Option Layout) → IfSome (end_of format) AreTheirs
theirs_end None = tt
theirs_end (Some f) = tt

theirs_in : (state : SourceState) (known : Option Coming) (format : Option Layout) → IfSome known AreTheirs → IfSome (coming_in state known format) AreTheirs
theirs_in Open known format are = are
theirs_in Ended known format are = theirs_end format
theirs_in (Failed fault) known format are = tt

module _ {R : Type 0} (remaining : R → Option (List ℕ)) where
  pub text_listed : (s : TextSource R) → IfSome (text_coming remaining s) (λ c. length c.events ≤ text_room s)
  text_listed s = few_in s.state _ s.format (text_room s) (few_from s.format s.given (ahead remaining s.lines) s.fresh)

  pub text_same_format : (s : TextSource R) → IfSome (text_coming remaining s) (λ c. IfSome (text_format s) (λ f. c.format ≡ Some f))
  text_same_format s = of_in s.state _ s.format (of_from s.format s.given (ahead remaining s.lines))

  pub text_of_format : (s : TextSource R) → IfSome (text_coming remaining s) (λ c. AreOf c.format c.events)
  text_of_format s = theirs_in s.state _ s.format (theirs_from s.format s.given (ahead remaining s.lines))
