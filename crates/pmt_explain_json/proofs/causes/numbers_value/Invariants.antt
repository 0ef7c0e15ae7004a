use Rattle.std.proofs.Common.{◌≡◌, map, take}
use Rattle.serde_json.specs.View.{view}
use Rattle.pmt_explain_json.specs.Entries.{count_data}
use Rattle.pmt_explain_json.proofs.causes.numbers_value.Given as goal

abbrev pub invariant-loop-number : goal.invariant-loop-number
invariant-loop-number l = map view l.values.items ≡ map count_data (take l.number-index l.numbers)
