use Rattle.std.proofs.Common.{◌≡◌, map, take}
use Rattle.serde_json.specs.View.{view}
use Rattle.pmt_explain_json.specs.Entries.{line_count_data}
use Rattle.pmt_explain_json.proofs.failures.lines_value.Given as goal

abbrev pub invariant-loop-line : goal.invariant-loop-line
invariant-loop-line l = map view l.values.items ≡ map (line_count_data l.trace) (take l.line-index l.lines)
