use Rattle.pmt_lines.specs.Splitters.{HasTaken}
use Rattle.pmt_lines.proofs.TakenLemmas.{first_events}
use Rattle.pmt_lines.proofs.splitting.split_trace.Given as goal

abbrev pub invariant-loop-event : goal.invariant-loop-event
invariant-loop-event l = HasTaken (first_events l.fn.trace l.event-index) l.splitter
