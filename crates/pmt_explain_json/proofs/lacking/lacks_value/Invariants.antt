use Rattle.std.proofs.Common.{◌≡◌, map, take}
use Rattle.serde_json.specs.View.{view}
use Rattle.pmt_explain_json.specs.Lines.{lack_data}
use Rattle.pmt_explain_json.proofs.lacking.lacks_value.Given as goal

abbrev pub invariant-loop-lack : goal.invariant-loop-lack
invariant-loop-lack l = map view l.values.items ≡ map lack_data (take l.lack-index l.lacks)
