use Rattle.std.proofs.Common.{◌≡◌, ◌++◌, drop}
use Rattle.std.specs.List.{flat_map}
use Rattle.pmt_explain_json.specs.Places.{hint_line}
use Rattle.pmt_explain_json.proofs.hints.push_hints.Given as goal

abbrev pub invariant-loop-hint : goal.invariant-loop-hint
invariant-loop-hint l =
    l.text.items ++ flat_map (hint_line l.trace l.labels) (drop l.hint-index l.hints) ≡ l.initial.text.items ++ flat_map (hint_line l.trace l.labels) l.hints
