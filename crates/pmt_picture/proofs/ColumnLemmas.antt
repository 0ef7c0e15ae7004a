-- One more number, and its column if the trace has that event.
use Rattle.std.proofs.Common.{◌≡◌, ℕ, List, [], ◌∷◌, ◌++◌, Option, Some, None, refl, ap, ◌∙◌}
use Rattle.std.proofs.lemmas.List.{map-append}
use Rattle.std.proofs.lemmas.List.Elements.{All-push, All-pop}
use Rattle.pmt_model.specs.declared.event.Event.{Event}
use Rattle.pmt_model.specs.Traces.{Recording, event}
use Rattle.pmt_picture.specs.declared.picture.Column.{Column}
use Rattle.pmt_picture.specs.Columns.{IsEvent, HasEvent, AreColumns}

pub columns-more : (T : Recording) (ns : List ℕ) (cs : List Column) (c : Column) → AreColumns T ns cs → IsEvent T c → AreColumns T (ns ++ c.number ∷ []) (cs ++ c ∷ [])
columns-more T ns cs c sofar is = record {
  events = All-push (IsEvent T) cs c sofar.events is;
  numbers = λ all.
      let before = (All-pop (HasEvent T) (ns ++ c.number ∷ []) ns (Some c.number) refl all).0 in
      map-append (λ (x : Column). x.number) cs (c ∷ []) ∙ ap (λ xs. xs ++ c.number ∷ []) (sofar.numbers before);
}

absent : (o : Option Event) (e : Event) → o ≡ None → o ≡ Some e → ⊥
absent None e none some = cc
absent (Some x) e none some = cc

pub columns-skip : (T : Recording) (ns : List ℕ) (cs : List Column) (n : ℕ) → AreColumns T ns cs → event T n ≡ None → AreColumns T (ns ++ n ∷ []) cs
columns-skip T ns cs n sofar none = record {
  events = sofar.events;
  numbers = λ all.
      let last = (All-pop (HasEvent T) (ns ++ n ∷ []) ns (Some n) refl all).1 in
      absurd (absent (event T n) last.0 none last.1);
}
