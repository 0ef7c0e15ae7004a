-- The header and the events so far are written.
use Rattle.std.proofs.Common.{◌≡◌, ◌++◌, take, flat_map}
use Rattle.pmt_text.specs.Spelling.{ended, header, event_text}
use Rattle.pmt_text.proofs.write.write_trace.Given as goal

abbrev pub invariant-loop-event : goal.invariant-loop-event
invariant-loop-event l = l.text.items ≡ ended (header l.trace.format) ++ flat_map event_text (take l.event-index l.event-items)
