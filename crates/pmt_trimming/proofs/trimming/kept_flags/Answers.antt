use Rattle.std.proofs.Common.{◌≡◌, ◌<◌, ◌≤◌, length, get_or, ap, subst, ◌∙◌, arith}
use Rattle.std.proofs.lemmas.Grind.{elements}
use Rattle.std.proofs.lemmas.Result.{IfOk-weaker}
use Rattle.pmt_trimming.specs.Passing.{IsPassOf, AreFlags}
use Rattle.pmt_trimming.proofs.TrimmingLemmas.{first_events, first-more, first-all}
use Rattle.pmt_trimming.proofs.trimming.kept_flags.Goals as goal

pub loop-event-preserved : goal.loop-event-preserved
loop-event-preserved c =
    let T = c.args.trace.now in
    let i = c.loop-event.event-index in
    let e = c.event-item.result in
    let events = c.events-event-items.ensures.value in
    let at : e ≡ get_or T.events i e = c.event-item.is ∙ ap (λ es. get_or es i e) events in
    let within : i < length T.events = omega (arith, c.loop-event-test.true, ap length events) in
    record {
      passing = subst (λ R. IsPassOf R c.take.new.self) (first-more T i e within at) (c.in_ok-take.ensures.follows (first_events T i) c.loop-event.invariant.passing);
      settled = c.in_ok-take.ensures.settled ∙ c.loop-event.invariant.settled;
    }

pub returns : goal.returns
returns c =
    let T = c.args.trace.now in
    let past : length T.events ≤ c.loop-event.event-index = omega (arith, c.loop-event-test.false, ap length c.events-event-items.ensures.value) in
    let all = subst (λ R. IsPassOf R c.loop-event.pass) (first-all T c.loop-event.event-index past) c.loop-event.invariant.passing in
    IfOk-weaker c.finish.result _ _ (λ flags are. subst (λ s. AreFlags T s flags.items) c.loop-event.invariant.settled (are T all)) c.finish.ensures

pub loop-event-init : goal.loop-event-init
loop-event-init c = grind (arith, elements)
