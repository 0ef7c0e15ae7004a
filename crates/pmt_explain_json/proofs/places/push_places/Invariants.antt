use Rattle.std.proofs.Common.{◌≡◌, ◌++◌, drop}
use Rattle.std.specs.List.{flat_map}
use Rattle.pmt_explain_json.specs.Places.{place_line}
use Rattle.pmt_explain_json.proofs.places.push_places.Given as goal

abbrev pub invariant-loop-row : goal.invariant-loop-row
invariant-loop-row l =
    l.text.items ++ flat_map (place_line l.trace l.labels l.whole) (drop l.row-index l.rows) ≡ l.initial.text.items ++ flat_map (place_line l.trace l.labels l.whole) l.rows
