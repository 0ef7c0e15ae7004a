use Rattle.std.proofs.Common.{take}
use Rattle.pmt_laws.specs.Prelude.{with_events, Recording}
use Rattle.pmt_trimming.specs.Streaming.{IsWholeOf}
use Rattle.pmt_trimming.proofs.whole_text.Whole.take_each.Given as goal

abbrev pub invariant-loop-event : goal.invariant-loop-event
invariant-loop-event l = (T : Recording) → IsWholeOf T l.fn.self → IsWholeOf (with_events T (take l.event-index l.events)) l.self
