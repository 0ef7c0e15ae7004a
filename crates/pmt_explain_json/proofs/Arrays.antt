-- Arrays of values.
use Rattle.std.proofs.Common.{◌≡◌, ℕ, ◌≤◌, List, length, take, map, Vec, Global, ap, ◌∙◌}
use Rattle.std.proofs.lemmas.List.{take_all}
use Rattle.serde_json.specs.Data.{Data}
use Rattle.serde_json.specs.View.{view}
use Rattle.serde_json.specs.declared.value.Value.{Value, Array}
use Rattle.serde_json.proofs.Views.{view-Array}
use Rattle.pmt_explain_json.specs.Entries.{array_of}

-- The array of the values, once there is one of each item.
pub array-of-all : {A : Type 0} → (f : A → Data) (xs : List A) (i : ℕ) (vs : Vec Value Global) →
    map view vs.items ≡ map f (take i xs) → length xs ≤ i → view (Array vs) ≡ array_of (map f xs)
array-of-all f xs i vs so-far end = view-Array vs ∙ ap array_of (so-far ∙ ap (map f) (take_all i xs end))
