-- What sources of events tell, call by call, those over lists too.
use Rattle.std.specs.Prelude.{◌≡◌, ◌≢◌, ℕ, ◌+◌, ◌<◌, ◌⊎◌, List, [], ◌∷◌, ◌++◌, Option, Some, None, Result, Ok, Err, zero, suc, ◌-◌, ◌≤◌, if◌then◌else◌, length, drop, IfSome}
use Rattle.std.specs.List.{AllByRecursion, flat_map}
use Rattle.pmt_text.specs.Prelude.{Event, Layout, Recording, IsEventIn, event_limit, with_events}
use Rattle.std.proofs.Common.{arith, refl}
use Rattle.std.proofs.lemmas.List.{length-drop}
use Rattle.pmt_text.specs.declared.kind.SourceError.{SourceError}
use Rattle.pmt_text.specs.declared.kind.SourceError.TheVariants.{Text, TooMany, Read, OutOfMemory, Failed}
use Rattle.pmt_text.specs.declared.source.SourceState.{SourceState}
use Rattle.pmt_text.specs.Coming.{Coming}
use Rattle.pmt_text.specs.Spelling.{event_text}
use Rattle.pmt_text.specs.declared.list_source.ListSource.{ListSource}
use Rattle.pmt_text.specs.declared.source.SourceState.TheVariants.{Open, Ended}
use Rattle.pmt_text.specs.declared.source.SourceState.TheVariants as states

-- ---- What was coming, where that is known

-- these events were taken, and the rest still comes
abbrev pub Gives : Option Coming → List Event → Option Coming → Type 0
Gives None taken new = Unit {0}
Gives (Some c) taken new = (rest : List Event) × (c.events ≡ taken ++ rest) × (new ≡ Some (record { format = c.format; events = rest; fault = c.fault }))

-- no event is left, and this is the end or the fault
abbrev pub IsOver : Option Coming → Option SourceError → Type 0
IsOver None fault = Unit {0}
IsOver (Some c) fault = (c.events ≡ []) × (c.fault ≡ fault)

-- A fault of the text was coming. A failed read and want of memory may come at any time, and take nothing.
abbrev pub Faults : Option Coming → SourceError → Type 0
Faults old (Text f) = IsOver old (Some (Text f))
Faults old TooMany = IsOver old (Some TooMany)
Faults old Read = Unit {0}
Faults old OutOfMemory = Unit {0}
Faults old Failed = Unit {0}

abbrev pub TakesNext : Option Coming → Result (Option Event) SourceError → Option Coming → Type 0
TakesNext old (Ok (Some e)) new = Gives old (e ∷ []) new
TakesNext old (Ok None) new = IsOver old None × Gives old [] new
TakesNext old (Err e) new = Faults old e

-- the format that comes
abbrev pub HasFormat : Option Coming → Option Layout → Type 0
HasFormat None format = Unit {0}
HasFormat (Some c) format = c.format ≡ format

-- no event is taken
abbrev pub TakesFormat : Option Coming → Result Layout SourceError → Option Coming → Type 0
TakesFormat old (Ok f) new = HasFormat old (Some f) × Gives old [] new
TakesFormat old (Err e) new = Faults old e

-- ---- What comes

-- The events are of the format; where none is told, there are none.
abbrev pub AreOf : Option Layout → List Event → Type 0
AreOf None es = es ≡ []
AreOf (Some f) es = AllByRecursion (IsEventIn f) es

-- ---- What was told

-- After the end the end is told again; after a fault, that it failed.
abbrev pub TellsNext : SourceState → Result (Option Event) SourceError → SourceState → Type 0
TellsNext states.Open (Ok (Some e)) new = new ≡ states.Open
TellsNext states.Open (Ok None) new = new ≡ states.Ended
TellsNext states.Open (Err e) new = (new ≡ states.Failed e) × (e ≢ Failed)
TellsNext states.Ended result new = (result ≡ Ok None) × (new ≡ states.Ended)
TellsNext (states.Failed told) result new = (result ≡ Err Failed) × (new ≡ states.Failed told)

-- The format is told after the end too; after a fault, that it failed.
abbrev pub TellsFormat : SourceState → Result Layout SourceError → SourceState → Type 0
TellsFormat states.Open (Ok f) new = new ≡ states.Open
TellsFormat states.Open (Err e) new = (new ≡ states.Failed e) × (e ≢ Failed)
TellsFormat states.Ended (Ok f) new = new ≡ states.Ended
TellsFormat states.Ended (Err e) new = ⊥
TellsFormat (states.Failed told) result new = (result ≡ Err Failed) × (new ≡ states.Failed told)

-- ---- Events that were ready

-- Of events that were put, if any, the lines are lent one after another, or nothing is.
abbrev pub LendsAll : List Event → Option (List ℕ) → Type 0
LendsAll [] lent = Unit {0}
LendsAll (e ∷ es) None = Unit {0}
LendsAll (e ∷ es) (Some text) = text ≡ flat_map event_text (e ∷ es)

-- Events that come next were put at the end of the trace, as next would give them one by one.
pub record TakesReady (old new : Option Coming) (lent : Option (List ℕ)) (before after : Recording) : Type 0 where
  pub events : List Event
  pub added : after ≡ with_events before events
  pub taken : Gives old events new
  pub lends : LendsAll events lent

-- ---- Lent lines

-- of an event that was given the line is lent, or nothing is
abbrev pub Lends : Result (Option Event) SourceError → Option (List ℕ) → Type 0
Lends (Ok (Some e)) (Some line) = line ≡ event_text e
Lends (Ok (Some e)) None = Unit {0}
Lends (Ok None) lent = Unit {0}
Lends (Err e) lent = Unit {0}

-- ---- The format

-- once it is known it stays
abbrev pub KeepsFormat : Option Layout → Option Layout → Type 0
KeepsFormat None new = Unit {0}
KeepsFormat (Some f) new = new ≡ Some f

-- an event that was given is of the format, which is known then
abbrev pub IsGivenIn : Option Layout → Result (Option Event) SourceError → Type 0
IsGivenIn (Some f) (Ok (Some e)) = IsEventIn f e
IsGivenIn None (Ok (Some e)) = ⊥
IsGivenIn format (Ok None) = Unit {0}
IsGivenIn format (Err e) = Unit {0}

-- a fault of the text that format tells is of line 1
abbrev pub IsOfFirstLine : SourceError → Type 0
IsOfFirstLine (Text f) = f.line ≡ 1
IsOfFirstLine TooMany = Unit {0}
IsOfFirstLine Read = Unit {0}
IsOfFirstLine OutOfMemory = Unit {0}
IsOfFirstLine Failed = Unit {0}

-- a fault of the text that next tells, once the format is known, is of a later line
abbrev pub IsOfLaterLine : Option Layout → SourceError → Type 0
IsOfLaterLine None e = Unit {0}
IsOfLaterLine (Some f) (Text t) = 1 < t.line
IsOfLaterLine (Some f) TooMany = Unit {0}
IsOfLaterLine (Some f) Read = Unit {0}
IsOfLaterLine (Some f) OutOfMemory = Unit {0}
IsOfLaterLine (Some f) Failed = Unit {0}

-- a format that can't be told is not known, unless a fault was told before
abbrev pub LeavesUnknown : Option Layout → SourceError → Type 0
LeavesUnknown format e = (e ≡ Failed) ⊎ (format ≡ None)

-- ---- Events given and left, and failed reads

-- how many events were given after this answer
abbrev pub given_after : ℕ → Result (Option Event) SourceError → ℕ
given_after given (Ok (Some e)) = given + 1
given_after given (Ok None) = given
given_after given (Err e) = given

-- an event that was given leaves one less to come
abbrev pub LeavesFewer : ℕ → Result (Option Event) SourceError → ℕ → Type 0
LeavesFewer old (Ok (Some e)) new = new < old
LeavesFewer old (Ok None) new = new ≡ old
LeavesFewer old (Err e) new = new ≡ old

abbrev pub read_faults : {T : Type 0} → Result T SourceError → ℕ
read_faults (Ok x) = 0
read_faults (Err (Text f)) = 0
read_faults (Err TooMany) = 0
read_faults (Err Read) = 1
read_faults (Err OutOfMemory) = 0
read_faults (Err Failed) = 0

-- A read fault is told exactly where the count of failed reads rises, which it does by one; None: the source has no count.
abbrev pub CountsReads : {T : Type 0} → Option ℕ → Result T SourceError → Option ℕ → Type 0
CountsReads None result new = Unit {0}
CountsReads (Some n) result new = new ≡ Some (n + read_faults result)

-- ---- What a list source gives

-- what holds of all holds of those from place n on
all-drop : (P : Event → Type 0) (n : ℕ) (es : List Event) → AllByRecursion P es → AllByRecursion P (drop n es)
all-drop P zero es all = all
all-drop P (suc n) [] all = tt
all-drop P (suc n) (e ∷ es) all = all-drop P n es all.1

-- the events from place n on, and then the end
abbrev pub rest_of_trace : Recording → ℕ → Coming
rest_of_trace T n = record { format = Some T.format; events = drop n T.events; fault = None }

abbrev pub list_coming : ListSource → Option Coming
list_coming s = Some (rest_of_trace s.trace.now s.given)

abbrev pub list_state : ListSource → SourceState
list_state s = if s.ended then Ended else Open

abbrev pub list_format : ListSource → Option Layout
list_format s = Some s.trace.now.format

abbrev pub list_room : ListSource → ℕ
list_room s = length s.trace.now.events - s.given

abbrev pub list_given : ListSource → ℕ
list_given s = s.given

pub list_few : (s : ListSource) → list_room s ≤ event_limit
list_few s = let few = s.few in omega (arith, few)

pub list_listed : (s : ListSource) → IfSome (list_coming s) (λ c. length c.events ≤ list_room s)
list_listed s = let e = length-drop s.given s.trace.now.events in omega (arith, e)

pub list_same_format : (s : ListSource) → IfSome (list_coming s) (λ c. IfSome (list_format s) (λ f. c.format ≡ Some f))
list_same_format s = refl

pub list_of_format : (s : ListSource) → IfSome (list_coming s) (λ c. AreOf c.format c.events)
list_of_format s = all-drop (IsEventIn s.trace.now.format) s.given s.trace.now.events s.of_format
