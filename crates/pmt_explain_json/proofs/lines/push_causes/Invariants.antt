use Rattle.std.proofs.Common.{◌≡◌, ◌++◌, drop}
use Rattle.std.specs.List.{flat_map}
use Rattle.pmt_explain_json.specs.Places.{cause_line}
use Rattle.pmt_explain_json.proofs.lines.push_causes.Given as goal

abbrev pub invariant-loop-group : goal.invariant-loop-group
invariant-loop-group l =
    l.text.items ++ flat_map (cause_line l.labels) (drop l.group-index l.groups) ≡ l.initial.text.items ++ flat_map (cause_line l.labels) l.groups
