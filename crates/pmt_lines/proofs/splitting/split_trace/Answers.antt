use Rattle.std.proofs.Common.{◌≡◌, ◌<◌, ◌≤◌, length, length-take, get_or, ap, subst, ◌∙◌, arith}
use Rattle.pmt_model.specs.Traces.{empty}
use Rattle.pmt_lines.specs.Splitters.{HasTaken}
use Rattle.pmt_lines.proofs.TakenLemmas.{first_events, first-more, first-all}
use Rattle.pmt_lines.proofs.splitting.split_trace.Goals as goal

pub loop-event-preserved : goal.loop-event-preserved
loop-event-preserved c =
    let T = c.args.trace in
    let i = c.loop-event.event-index in
    let e = c.event-item.result in
    let events = c.events-all.ensures.value in
    let at : e ≡ get_or T.events i e = c.event-item.is ∙ ap (λ es. get_or es i e) events in
    let within : i < length T.events = omega (arith, c.loop-event-test.true, ap length events) in
    subst (λ R. HasTaken R c.take.new.self) (first-more T i e within at) (c.in_ok-take.ensures (first_events T i) c.loop-event.invariant)

pub finish-requires : goal.finish-requires
finish-requires c =
    let T = c.args.trace in
    let past : length T.events ≤ c.loop-event.event-index = omega (arith, c.loop-event-test.false, ap length c.events-all.ensures.value) in
    subst (λ R. HasTaken R c.loop-event.splitter) (first-all T c.loop-event.event-index past) c.loop-event.invariant

pub loop-event-init : goal.loop-event-init
loop-event-init c = subst (λ f. HasTaken (empty f) c.in_ok-splitter.splitter) c.format.ensures.value c.in_ok-splitter.ensures

pub take-requires-clause-taking : goal.take-requires-clause-taking
take-requires-clause-taking c = (first_events c.args.trace c.loop-event.event-index, c.loop-event.invariant)

pub take-requires-clause-room : goal.take-requires-clause-room
take-requires-clause-room c =
    let T = c.args.trace in
    let events = c.events-all.ensures in
    omega (arith, c.loop-event.invariant.taken, length-take c.loop-event.event-index T.events, c.loop-event-test.true, ap length events.value, events.is_trace.few)
