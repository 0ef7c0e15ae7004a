use Rattle.std.proofs.Common.{◌≡◌, ◌≤◌, length, take, vec_len, vec_capacity}
use Rattle.std.specs.List.{filter_map}
use Rattle.pmt_model.specs.Traces.{event}
use Rattle.pmt_model.proofs.trace.Trace.select.Given as goal

abbrev pub invariant-loop-number : goal.invariant-loop-number
invariant-loop-number l = (l.events.items ≡ filter_map (event l.self) (take l.number-index l.numbers)) × (vec_len l.events ≡ l.number-index) × (length l.numbers ≤ vec_capacity l.events)
