-- What the split of a source tells, and events that are taken from it block by block.
use Rattle.std.specs.Prelude.{◌≡◌, ◌≢◌, ℕ, ◌<◌, ◌⊎◌, length, Option, Some, Result, Ok, Err, ◌+◌, ◌≤◌, List}
use Rattle.pmt_text.specs.declared.kind.SourceError.{SourceError}
use Rattle.pmt_text.specs.declared.kind.SourceError.TheVariants.{Text, TooMany, Read, OutOfMemory, Failed}
use Rattle.pmt_text.specs.declared.source.SourceState.{SourceState}
use Rattle.pmt_text.specs.Coming.{Coming, ComesWhole}
use Rattle.pmt_text.specs.Sources.{Gives, HasFormat}
use Rattle.pmt_laws.specs.Prelude.{Event, Layout, Recording}
use Rattle.pmt_taking.specs.declared.taking.TakeError.{TakeError}
use Rattle.pmt_text.specs.declared.source.SourceState.TheVariants as states
use Rattle.pmt_taking.specs.declared.taking.TakeError.TheVariants as refusals

-- ---- What came

-- A fault of the text is the one that came, at whatever event.
abbrev pub IsFaultOf : Coming → SourceError → Type 0
IsFaultOf c (Text f) = c.fault ≡ Some (Text f)
IsFaultOf c TooMany = c.fault ≡ Some TooMany
IsFaultOf c Read = Unit {0}
IsFaultOf c OutOfMemory = Unit {0}
IsFaultOf c Failed = Unit {0}

-- ---- What the source told, by its states before and after

-- It has told its end.
abbrev pub TellsEnd : SourceState → SourceState → Type 0
TellsEnd states.Open new = new ≡ states.Ended
TellsEnd states.Ended new = new ≡ states.Ended
TellsEnd (states.Failed told) new = ⊥

-- It has told this fault, or `Failed` where it had told a fault before.
abbrev pub TellsFault : SourceState → SourceError → SourceState → Type 0
TellsFault states.Open e new = (new ≡ states.Failed e) × (e ≢ Failed)
TellsFault states.Ended e new = ⊥
TellsFault (states.Failed told) e new = (e ≡ Failed) × (new ≡ states.Failed told)

-- It has told no fault, and its end only where it had told it before.
abbrev pub TellsNothing : SourceState → SourceState → Type 0
TellsNothing states.Open new = new ≡ states.Open
TellsNothing states.Ended new = new ≡ states.Ended
TellsNothing (states.Failed told) new = ⊥

-- ---- What is answered where the events of a source were to be taken

-- The fault that the source told, if it told one.
abbrev pub told_by : {A : Type 0} → Result A TakeError → Result (Unit {0}) SourceError
told_by (Ok x) = Ok tt
told_by (Err (refusals.Source e)) = Err e
told_by (Err refusals.OutOfMemory) = Ok tt

-- The source told its end, or the fault that is answered; where memory was refused to the split itself, it told nothing.
abbrev pub TellsSplit : {A : Type 0} → SourceState → Result A TakeError → SourceState → Type 0
TellsSplit old (Ok x) new = TellsEnd old new
TellsSplit old (Err (refusals.Source e)) new = TellsFault old e new
TellsSplit old (Err refusals.OutOfMemory) new = TellsNothing old new

-- The same, where the source may have told its end before memory was refused.
abbrev pub TellsTaken : {A : Type 0} → SourceState → Result A TakeError → SourceState → Type 0
TellsTaken old (Ok x) new = TellsEnd old new
TellsTaken old (Err (refusals.Source e)) new = TellsFault old e new
TellsTaken old (Err refusals.OutOfMemory) new = TellsNothing old new ⊎ TellsEnd old new

-- Where `OutOfMemory` stands for both: the source told it, or it told nothing, and memory was refused to the split itself.
abbrev pub TellsWhole : {A : Type 0} → SourceState → Result A SourceError → SourceState → Type 0
TellsWhole old (Ok x) new = TellsEnd old new
TellsWhole old (Err e) new = TellsFault old e new ⊎ ((e ≡ OutOfMemory) × TellsNothing old new)

-- ---- What a split of the first events answers

-- These are the first events, at most so many. Where they are fewer, they are all, and the source told its end; else it told nothing.
pub record TakesFirst (most : ℕ) (old new : Option Coming) (before after : SourceState) (T : Recording) : Type 0 where
  pub format : HasFormat old (Some T.format)
  pub events : Gives old T.events new
  pub few : ((length T.events < most) × ComesWhole old T × TellsEnd before after) ⊎ ((length T.events ≡ most) × TellsNothing before after)

-- The source told the fault that is answered; where memory was refused to the split itself, it told nothing.
abbrev pub TellsRefusal : {A : Type 0} → SourceState → Result A TakeError → SourceState → Type 0
TellsRefusal old (Ok x) new = Unit {0}
TellsRefusal old (Err (refusals.Source e)) new = TellsFault old e new
TellsRefusal old (Err refusals.OutOfMemory) new = TellsNothing old new

-- ---- Events that are taken from a source block by block

-- What a source shows between two calls.
pub record Shown : Type 0 where
  pub coming : Option Coming
  pub state : SourceState
  pub format : Option Layout
  pub failures : Option ℕ
  pub room : ℕ

-- What a source shows by these members of its trait.
abbrev pub shown_by : {S : Type 0} → (S → Option Coming) → (S → SourceState) → (S → Option Layout) → (S → Option ℕ) → (S → ℕ) → S → Shown
shown_by coming state format failures room s =
    record { coming = coming s; state = state s; format = format s; failures = failures s; room = room s }

-- The block has the next events, at most so many, in the format that was known, if one was: by what the source shows before and after.
pub record TakesBlock (most : ℕ) (old new : Shown) (block : Recording) : Type 0 where
  pub first : TakesFirst most old.coming new.coming old.state new.state block
  pub known : new.format ≡ Some block.format
  pub same_format : (f : Layout) → old.format ≡ Some f → block.format ≡ f
  pub roomy : length block.events + new.room ≤ old.room

-- Events were taken, at most so many, and those behind them still come.
pub record LeavesRest (most : ℕ) (old new : Shown) : Type 0 where
  pub taken : List Event
  pub few : length taken ≤ most
  pub rest : Gives old.coming taken new.coming
  pub roomy : length taken + new.room ≤ old.room

-- So it is where memory was refused to the block; after a fault of the source nothing comes.
abbrev pub RefusedLeaves : {A : Type 0} → ℕ → Shown → Result A TakeError → Shown → Type 0
RefusedLeaves most old (Ok x) new = Unit {0}
RefusedLeaves most old (Err (refusals.Source e)) new = Unit {0}
RefusedLeaves most old (Err refusals.OutOfMemory) new = LeavesRest most old new
