use Rattle.std.proofs.Common.{◌≡◌, map, take}
use Rattle.serde_json.specs.View.{view}
use Rattle.pmt_explain_json.specs.Entries.{range_after_data}
use Rattle.pmt_explain_json.proofs.failures.ranges_value.Given as goal

abbrev pub invariant-loop-range : goal.invariant-loop-range
invariant-loop-range l = map view l.values.items ≡ map range_after_data (take l.range-index l.ranges)
