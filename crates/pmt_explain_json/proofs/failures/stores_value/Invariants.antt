use Rattle.std.proofs.Common.{◌≡◌, map, take}
use Rattle.serde_json.specs.View.{view}
use Rattle.pmt_explain_json.specs.Entries.{byte_store}
use Rattle.pmt_explain_json.proofs.failures.stores_value.Given as goal

abbrev pub invariant-loop-byte : goal.invariant-loop-byte
invariant-loop-byte l = map view l.values.items ≡ map byte_store (take l.byte-index l.bytes)
