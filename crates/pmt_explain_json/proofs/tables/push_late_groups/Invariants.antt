use Rattle.std.proofs.Common.{◌≡◌, ◌++◌, drop}
use Rattle.std.specs.List.{flat_map}
use Rattle.pmt_explain_json.specs.Lines.{late_line}
use Rattle.pmt_explain_json.proofs.tables.push_late_groups.Given as goal

abbrev pub invariant-loop-group : goal.invariant-loop-group
invariant-loop-group l =
    l.text.items ++ flat_map (late_line l.trace l.labels) (drop l.group-index l.groups) ≡ l.initial.text.items ++ flat_map (late_line l.trace l.labels) l.groups
