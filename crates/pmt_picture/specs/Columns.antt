-- The columns of a picture are events of the trace.
use Rattle.std.specs.Prelude.{◌≡◌, ℕ, List, Some, map}
use Rattle.std.specs.List.{All}
use Rattle.pmt_model.specs.declared.event.Event.{Event}
use Rattle.pmt_model.specs.Traces.{Recording, event}
use Rattle.pmt_picture.specs.declared.picture.Column.{Column}

-- The column shows the event with its number.
abbrev pub IsEvent : Recording → Column → Type 0
IsEvent T c = event T c.number ≡ Some c.event

-- The trace has an event with this number.
abbrev pub HasEvent : Recording → ℕ → Type 0
HasEvent T n = (e : Event) × (event T n ≡ Some e)

abbrev pub numbers_of : List Column → List ℕ
numbers_of cs = map (λ c. c.number) cs

-- The columns show events of the trace; where all of these numbers are events, these and no others, in their order.
pub record AreColumns (T : Recording) (ns : List ℕ) (cs : List Column) : Type 0 where
  pub events : All (IsEvent T) cs
  pub numbers : All (HasEvent T) ns → numbers_of cs ≡ ns
