use Rattle.pmt_page.proofs.Prelude.{ap, ◌∙◌, arith, Event, op_letter}
use Rattle.pmt_page.proofs.Pushing.{letter-pushed, letters-pushed}
use Rattle.pmt_page.proofs.events.push_ops.Goals as goal

pub loop-event-preserved : goal.loop-event-preserved
loop-event-preserved c =
    letter-pushed (λ (e : Event). op_letter e.op) c.args.events.now c.loop-event.event-index c.event-item.result _ _ _ _ c.loop-event-test.true c.loop-event.invariant
    c.in_ok-push.ensures.items (c.op_letter.ensures ∙ ap (λ (e : Event). op_letter e.op) c.event-item.is)

pub returns : goal.returns
returns c = letters-pushed (λ (e : Event). op_letter e.op) c.args.events.now c.loop-event.event-index _ _ c.loop-event.invariant (omega (arith, c.loop-event-test.false))
