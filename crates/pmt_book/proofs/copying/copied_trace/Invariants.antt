use Rattle.std.proofs.Common.{◌≡◌, take}
use Rattle.pmt_book.proofs.copying.copied_trace.Given as goal

abbrev pub invariant-loop-event : goal.invariant-loop-event
invariant-loop-event l = l.copy ≡ record { format = l.trace.format; events = take l.event-index l.event-items }
