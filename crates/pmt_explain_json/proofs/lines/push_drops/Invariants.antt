use Rattle.std.proofs.Common.{◌≡◌, ◌++◌, drop}
use Rattle.std.specs.List.{flat_map}
use Rattle.pmt_explain_json.specs.Entries.{dropped_line}
use Rattle.pmt_explain_json.proofs.lines.push_drops.Given as goal

abbrev pub invariant-loop-dropped : goal.invariant-loop-dropped
invariant-loop-dropped l =
    l.text.items ++ flat_map (dropped_line l.trace l.labels) (drop l.dropped-index l.entries) ≡ l.initial.text.items ++ flat_map (dropped_line l.trace l.labels) l.entries
