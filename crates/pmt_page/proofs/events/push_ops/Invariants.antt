use Rattle.pmt_page.proofs.Prelude.{◌≡◌, ◌++◌, drop, op_column}
use Rattle.pmt_page.proofs.events.push_ops.Given as goal

abbrev pub invariant-loop-event : goal.invariant-loop-event
invariant-loop-event l = l.text.items ++ op_column (drop l.event-index l.events) ≡ l.initial.text.items ++ op_column l.events
