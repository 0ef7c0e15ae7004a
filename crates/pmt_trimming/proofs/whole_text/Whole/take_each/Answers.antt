use Rattle.std.proofs.Common.{take, subst, arith, length-append, length-take-le}
use Rattle.pmt_model.specs.Traces.{with_events}
use Rattle.pmt_trimming.specs.Streaming.{IsWholeOf}
use Rattle.pmt_trimming.proofs.TrimmingLemmas.{events-next}
use Rattle.pmt_trimming.proofs.whole_text.Whole.take_each.Goals as goal

pub take-requires-clause-whole : goal.take-requires-clause-whole
take-requires-clause-whole c = let of = c.requires.whole in (with_events of.0 (take c.loop-event.event-index c.args.events.now), c.loop-event.invariant of.0 of.1)

pub take-requires-clause-room : goal.take-requires-clause-room
take-requires-clause-room c =
    let of = c.requires.whole in
    let es = c.args.events.now in
    let i = c.loop-event.event-index in
    let now = c.loop-event.invariant of.0 of.1 in
    omega (arith, of.1.pass.all, now.pass.all, c.requires.room, length-append of.0.events (take i es), length-take-le i es (omega arith))

pub loop-event-preserved : goal.loop-event-preserved
loop-event-preserved c = λ T is.
    let es = c.args.events.now in
    let i = c.loop-event.event-index in
    subst (λ R. IsWholeOf R c.take.new.self) (events-next T es i c.event-item.result (omega arith) c.event-item.is) (c.in_ok-take.ensures _ (c.loop-event.invariant T is))
