use Rattle.pmt_page.proofs.Prelude.{◌++◌, ap, ◌∙◌, arith, Event, hex_bytes, stored_bytes}
use Rattle.pmt_page.proofs.Pushing.{piece-pushed, pieces-pushed}
use Rattle.pmt_page.proofs.events.push_values.Goals as goal

pub loop-event-preserved : goal.loop-event-preserved
loop-event-preserved c =
    piece-pushed (λ (e : Event). hex_bytes (stored_bytes e.op)) c.args.events.now c.loop-event.event-index c.event-item.result _ _ _ c.loop-event-test.true c.loop-event.invariant
    (c.in_ok-push_value.ensures ∙ ap (λ (e : Event). c.loop-event.text.items ++ hex_bytes (stored_bytes e.op)) c.event-item.is)

pub returns : goal.returns
returns c =
    pieces-pushed (λ (e : Event). hex_bytes (stored_bytes e.op)) c.args.events.now c.loop-event.event-index _ _ c.loop-event.invariant (omega (arith, c.loop-event-test.false))
