use Rattle.pmt_page.proofs.Prelude.{◌++◌, ap, ◌∙◌, arith, Event, numbers_of}
use Rattle.pmt_page.proofs.Pushing.{piece-pushed, pieces-pushed}
use Rattle.pmt_page.proofs.events.numbers_of.Goals as goal

pub loop-event-preserved : goal.loop-event-preserved
loop-event-preserved c =
    piece-pushed (numbers_of c.args.has_ranges c.args.column) c.args.events.now c.loop-event.event-index c.event-item.result _ _ _ c.loop-event-test.true c.loop-event.invariant
    (c.in_ok-push_number.ensures ∙ ap (λ (e : Event). c.loop-event.found.items ++ numbers_of c.args.has_ranges c.args.column e) c.event-item.is)

pub returns : goal.returns
returns c =
    pieces-pushed (numbers_of c.args.has_ranges c.args.column) c.args.events.now c.loop-event.event-index _ _ c.loop-event.invariant (omega (arith, c.loop-event-test.false))
