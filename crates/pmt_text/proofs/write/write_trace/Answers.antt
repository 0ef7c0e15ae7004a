-- All events are written.
use Rattle.std.proofs.Common.{List, ◌++◌, flat_map, ap, ◌∙◌, arith, take_all}
use Rattle.pmt_model.specs.declared.event.Event.{Event}
use Rattle.pmt_text.specs.Spelling.{ended, header, event_text, spelling}
use Rattle.pmt_text.proofs.write.write_trace.Goals as goal

pub returns : goal.returns
unfolding spelling
returns c =
    c.loop-event.invariant
    ∙ ap (λ (events : List Event). ended (header c.args.trace.now.format) ++ flat_map event_text events)
    (take_all c.loop-event.event-index c.events-event-items.result.now (omega arith) ∙ c.events-event-items.ensures.value)
