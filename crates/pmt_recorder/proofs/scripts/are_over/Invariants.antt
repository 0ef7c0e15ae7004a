use Rattle.std.proofs.Common.{◌≡◌, drop, map, nat_lt}
use Rattle.pmt_model.specs.Traces.{event_limit}
use Rattle.pmt_recorder.specs.Scripts.{op_count}
use Rattle.pmt_recorder.proofs.scripts.are_over.Given as goal

abbrev pub invariant-loop-script : goal.invariant-loop-script
invariant-loop-script l =
    nat_lt l.room (op_count (map (λ script. script.items) (drop l.script-index l.scripts))) ≡ nat_lt event_limit (op_count (map (λ script. script.items) l.scripts))
