-- What comes from the bytes ahead, once a line of them is found or no line is left.
use Rattle.std.proofs.Common.{◌≡◌, ℕ, suc, ◌+◌, ◌<◌, ◌≤◌, Bool, true, false, cond, ◌==◌, nat_lt, List, [], ◌∷◌, ◌++◌, length, take, Option, Some, None, IfSome, option_map, append_assoc, Result, Ok, Err, refl, sym, ap, ◌∙◌, subst, arith, ne_eqb}
use Rattle.std.specs.List.{onto_first}
use Rattle.std.proofs.lemmas.Bool.{lt-ltb, le-ltb}
use Rattle.pmt_text.specs.Prelude.{Event, Layout, event_limit}
use Rattle.pmt_text.specs.declared.kind.TextKind.{TextKind}
use Rattle.pmt_text.specs.declared.kind.TextKind.TheVariants.{Truncated, BadHeader, TooManyEvents}
use Rattle.pmt_text.specs.declared.kind.SourceError.{SourceError}
use Rattle.pmt_text.specs.declared.kind.SourceError.TheVariants.{TooMany}
use Rattle.pmt_text.specs.Judging.{line_judged}
use Rattle.pmt_text.specs.Coming.{Coming, Items, text_lines, lines_coming, item_then, rest_fault, trace_coming, lines_of_trace, header_then, ends_with, format_in, fault_at, without_format}
use Rattle.pmt_text.specs.OneLine.{IsOneLine}
use Rattle.pmt_text.specs.Lines.{Ahead, known_ahead, KeepsKnown, IsLast, IsTooMuch}
use Rattle.pmt_text.specs.Sources.{Gives, IsOver, HasFormat}
use Rattle.pmt_text.specs.TextSources.{coming_of}
use Rattle.pmt_text.proofs.LineLemmas.{IsFree, parts-append, parts-free}

-- ---- Lines

-- bytes without LF, one by one
pub free_line : (line : List ℕ) → IsOneLine line → IsFree 10 line
free_line [] h = tt
free_line (b ∷ line) h = (ne_eqb b 10 (h 0 (omega arith)), free_line line (λ k l. h (suc k) (omega arith)))

onto_some : (b : ℕ) (t : Bool) (bytes : List ℕ) → ((next : List ℕ) × (tail : List (List ℕ)) × (text_lines bytes ≡ next ∷ tail))
    → (next : List ℕ) × (tail : List (List ℕ)) × (cond t ([] ∷ text_lines bytes) (onto_first b (text_lines bytes)) ≡ next ∷ tail)
onto_some b true bytes rest = ([], text_lines bytes, refl)
onto_some b false bytes rest = (b ∷ rest.0, rest.1, ap (onto_first b) rest.2)

-- what stands after the last LF is a line too
pub some_line : (bytes : List ℕ) → (next : List ℕ) × (tail : List (List ℕ)) × (text_lines bytes ≡ next ∷ tail)
some_line [] = ([], [], refl)
some_line (b ∷ bytes) = onto_some b (b == 10) bytes (some_line bytes)

pub first_line : (line rest : List ℕ) → IsOneLine line → text_lines (line ++ 10 ∷ rest) ≡ line ∷ text_lines rest
first_line line rest h = parts-append 10 line rest (free_line line h)

pub only_line : (line : List ℕ) → IsOneLine line → text_lines line ≡ line ∷ []
only_line line h = parts-free 10 line (free_line line h)

-- ---- Events

-- the first line is judged, and then the others
step_of : (f : Layout) (more : Bool) (given : ℕ) (line rest : List ℕ) → IsOneLine line
    → lines_coming (line_judged f) more 2 given (text_lines (line ++ 10 ∷ rest)) ≡ item_then (2 + given) given (line_judged f line) (lines_coming (line_judged f) more 2 (given + 1) (text_lines rest))
unfolding lines_coming
step_of f more given line rest h = let n = some_line rest in rw (first_line line rest h, n.2) refl

-- no line ends any more
last_of : (f : Layout) (more : Bool) (given : ℕ) (line : List ℕ) → IsOneLine line → lines_coming (line_judged f) more 2 given (text_lines line) ≡ ends_with (rest_fault more (2 + given) line)
unfolding lines_coming
last_of f more given line h = rw (only_line line h) refl

item_ok : (number given : ℕ) (e : Event) (rest : Items Event) → given < event_limit → item_then number given (Ok e) rest ≡ record { items = e ∷ rest.items; fault = rest.fault }
item_ok number given e rest few = rw (lt-ltb given event_limit few) refl

item_late : (number given : ℕ) (e : Event) (rest : Items Event) → event_limit ≤ given → item_then number given (Ok e) rest ≡ ends_with (Some (fault_at number TooManyEvents))
item_late number given e rest many = rw (le-ltb given event_limit many) refl

module _ (f : Layout) (given : ℕ) where
  -- what comes where so many events were given
  abbrev pub coming_now : Option Ahead → Option Coming
  coming_now a = option_map (coming_of (Some f) given) a

  -- and where one more was
  abbrev pub coming_then : Option Ahead → Option Coming
  coming_then a = option_map (coming_of (Some f) (given + 1)) a

  over_of : (a : Ahead) (fault : SourceError) → lines_coming (line_judged f) a.more 2 given (text_lines a.bytes) ≡ ends_with (Some fault) → IsOver (coming_now (Some a)) (Some fault)
  over_of a fault is = (ap (λ i. i.items) is, ap (λ i. i.fault) is)

  module _ (held later line : List ℕ) (room : ℕ) (cut : held ≡ line ++ 10 ∷ later) (one : IsOneLine line) where
    abbrev ahead_at : List ℕ → Ahead
    ahead_at xs = record { bytes = held ++ take room xs; more = nat_lt room (length xs) }

    rest_at : List ℕ → Items Event
    rest_at xs = lines_coming (line_judged f) (nat_lt room (length xs)) 2 (given + 1) (text_lines (later ++ take room xs))

    step_at : (xs : List ℕ) → lines_coming (line_judged f) (nat_lt room (length xs)) 2 given (text_lines (held ++ take room xs)) ≡ item_then (2 + given) given (line_judged f line) (rest_at xs)
    unfolding rest_at
    step_at xs =
        let whole : held ++ take room xs ≡ line ++ 10 ∷ (later ++ take room xs) = ap (λ l. l ++ take room xs) cut ∙ append_assoc line (10 ∷ later) (take room xs) in
        rw whole (step_of f (nat_lt room (length xs)) given line (later ++ take room xs) one)

    judged_at : (xs : List ℕ) (r : Result Event TextKind) → line_judged f line ≡ r → lines_coming (line_judged f) (nat_lt room (length xs)) 2 given (text_lines (held ++ take room xs)) ≡ item_then (2 + given) given r (rest_at xs)
    judged_at xs r judged = step_at xs ∙ ap (λ j. item_then (2 + given) given j (rest_at xs)) judged

    -- the line is an event, and there is room for it
    pub event_taken : (known : Option (List ℕ)) (e : Event) → line_judged f line ≡ Ok e → given < event_limit → Gives (coming_now (known_ahead known held room)) (e ∷ []) (coming_then (known_ahead known later room))
    unfolding rest_at
    event_taken None e judged few = tt
    event_taken (Some xs) e judged few =
        let is : lines_coming (line_judged f) (nat_lt room (length xs)) 2 given (text_lines (held ++ take room xs)) ≡ record { items = e ∷ (rest_at xs).items; fault = (rest_at xs).fault } =
        judged_at xs (Ok e) judged ∙ item_ok (2 + given) given e (rest_at xs) few in
        ((rest_at xs).items, ap (λ i. i.items) is, ap (λ (o : Option SourceError). Some (record { format = Some f; events = (rest_at xs).items; fault = o })) (sym (ap (λ i. i.fault) is)))

    -- a million events stand before it
    pub event_late : (known : Option (List ℕ)) (e : Event) → line_judged f line ≡ Ok e → event_limit ≤ given → IsOver (coming_now (known_ahead known held room)) (Some (fault_at (2 + given) TooManyEvents))
    event_late None e judged many = tt
    event_late (Some xs) e judged many = over_of (ahead_at xs) _ (judged_at xs (Ok e) judged ∙ item_late (2 + given) given e (rest_at xs) many)

    -- the line is refused
    pub event_refused : (known : Option (List ℕ)) (kind : TextKind) → line_judged f line ≡ Err kind → IsOver (coming_now (known_ahead known held room)) (Some (fault_at (2 + given) kind))
    event_refused None kind judged = tt
    event_refused (Some xs) kind judged = over_of (ahead_at xs) _ (judged_at xs (Err kind) judged)

  -- the line without LF is left
  pub events_last : (a b : Option Ahead) (line : List ℕ) → KeepsKnown a b → IsLast b line false → IsOver (coming_now a) (rest_fault false (2 + given) line)
  events_last None b line kept last = tt
  events_last (Some x) b line kept last =
      let is : (x.bytes ≡ line) × (x.more ≡ false) = subst (λ (o : Option Ahead). IfSome o (λ y. (y.bytes ≡ line) × (y.more ≡ false))) kept last.1 in
      let end : lines_coming (line_judged f) x.more 2 given (text_lines x.bytes) ≡ ends_with (rest_fault false (2 + given) line) = rw (is.0, is.1) (last_of f false given line last.0) in
      (ap (λ i. i.items) end, ap (λ i. i.fault) end)

  -- more bytes come than are judged
  pub events_much : (a : Option Ahead) → IsTooMuch a → IsOver (coming_now a) (Some TooMany)
  events_much None much = tt
  events_much (Some x) much =
      let end : lines_coming (line_judged f) x.more 2 given (text_lines x.bytes) ≡ ends_with (Some TooMany) = rw much.1 (last_of f true given x.bytes much.0) in
      (ap (λ i. i.items) end, ap (λ i. i.fault) end)

-- what is known stays, and nothing was taken of it
pub Gives-kept : (coming : Ahead → Coming) (a b : Option Ahead) → KeepsKnown a b → Gives (option_map coming a) [] (option_map coming b)
Gives-kept coming None b kept = tt
Gives-kept coming (Some x) b kept = ((coming x).events, refl, ap (option_map coming) kept)

-- ---- The header

-- what comes where nothing was given
abbrev pub coming_first : Option Ahead → Option Coming
coming_first a = option_map (coming_of None 0) a

trace_step : (more : Bool) (line rest : List ℕ) → IsOneLine line → trace_coming more (line ++ 10 ∷ rest) ≡ header_then (format_in line) more (text_lines rest)
unfolding trace_coming
trace_step more line rest h = let n = some_line rest in rw (first_line line rest h, n.2) refl

trace_last : (more : Bool) (line : List ℕ) → IsOneLine line → trace_coming more line ≡ lines_of_trace more (line ∷ [])
unfolding trace_coming
trace_last more line h = rw (only_line line h) refl

module _ (held later line : List ℕ) (room : ℕ) (cut : held ≡ line ++ 10 ∷ later) (one : IsOneLine line) where
  header_at : (xs : List ℕ) (r : Option Layout) → format_in line ≡ r → trace_coming (nat_lt room (length xs)) (held ++ take room xs) ≡ header_then r (nat_lt room (length xs)) (text_lines (later ++ take room xs))
  header_at xs r judged =
      let whole : held ++ take room xs ≡ line ++ 10 ∷ (later ++ take room xs) = ap (λ l. l ++ take room xs) cut ∙ append_assoc line (10 ∷ later) (take room xs) in
      ap (trace_coming (nat_lt room (length xs))) whole ∙ trace_step (nat_lt room (length xs)) line (later ++ take room xs) one
      ∙ ap (λ o. header_then o (nat_lt room (length xs)) (text_lines (later ++ take room xs))) judged

  -- the header is read
  pub header_taken : (known : Option (List ℕ)) (f : Layout) → format_in line ≡ Some f
      → HasFormat (coming_first (known_ahead known held room)) (Some f) × Gives (coming_first (known_ahead known held room)) [] (coming_now f 0 (known_ahead known later room))
  header_taken None f judged = (tt, tt)
  header_taken (Some xs) f judged =
      let is = header_at xs (Some f) judged in
      let c = trace_coming (nat_lt room (length xs)) (held ++ take room xs) in
      (ap (λ i. i.format) is, (c.events, refl, ap Some (sym is)))

  -- the first line is no header
  pub header_refused : (known : Option (List ℕ)) → format_in line ≡ None → IsOver (coming_first (known_ahead known held room)) (Some (fault_at 1 BadHeader))
  header_refused None judged = tt
  header_refused (Some xs) judged = let is = header_at xs None judged in (ap (λ i. i.events) is, ap (λ i. i.fault) is)

-- the first line has no LF
pub header_last : (a b : Option Ahead) (line : List ℕ) → KeepsKnown a b → IsLast b line false → IsOver (coming_first a) (Some (fault_at 1 Truncated))
header_last None b line kept last = tt
header_last (Some x) b line kept last =
    let is : (x.bytes ≡ line) × (x.more ≡ false) = subst (λ (o : Option Ahead). IfSome o (λ y. (y.bytes ≡ line) × (y.more ≡ false))) kept last.1 in
    let end : trace_coming x.more x.bytes ≡ without_format (fault_at 1 Truncated) = rw (is.0, is.1) (trace_last false line last.0) in
    (ap (λ i. i.events) end, ap (λ i. i.fault) end)

pub header_much : (a : Option Ahead) → IsTooMuch a → IsOver (coming_first a) (Some TooMany)
header_much None much = tt
header_much (Some x) much =
    let end : trace_coming x.more x.bytes ≡ without_format TooMany = rw much.1 (trace_last true x.bytes much.0) in
    (ap (λ i. i.events) end, ap (λ i. i.fault) end)
