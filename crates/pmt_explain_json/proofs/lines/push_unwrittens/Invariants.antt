use Rattle.std.proofs.Common.{◌≡◌, ◌++◌, drop}
use Rattle.std.specs.List.{flat_map}
use Rattle.pmt_explain_json.specs.Entries.{unwritten_line}
use Rattle.pmt_explain_json.proofs.lines.push_unwrittens.Given as goal

abbrev pub invariant-loop-found : goal.invariant-loop-found
invariant-loop-found l =
    l.text.items ++ flat_map (unwritten_line l.trace l.labels) (drop l.found-index l.entries) ≡ l.initial.text.items ++ flat_map (unwritten_line l.trace l.labels) l.entries
