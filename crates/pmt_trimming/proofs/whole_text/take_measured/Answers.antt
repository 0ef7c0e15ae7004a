use Rattle.std.proofs.Common.{subst, ◌∙◌, arith}
use Rattle.std.proofs.lemmas.Grind.{elements}
use Rattle.pmt_trimming.specs.Passing.{IsPassOf}
use Rattle.pmt_trimming.proofs.LengthLemmas.{length-next}
use Rattle.pmt_trimming.proofs.TrimmingLemmas.{events-next}
use Rattle.pmt_trimming.proofs.whole_text.take_measured.Goals as goal

pub loop-event-preserved : goal.loop-event-preserved
loop-event-preserved c =
    let es = c.args.events.now in
    let i = c.loop-event.event-index in
    let before = c.loop-event.invariant in
    record {
      passing = λ T is. subst (λ R. IsPassOf R c.take.new.self) (events-next T es i c.event-item.result (omega arith) c.event-item.is) (c.in_ok-take.ensures.follows _ (before.passing T is));
      settled = c.in_ok-take.ensures.settled ∙ before.settled;
      lengths = length-next es i c.event-item.result _ _ _ _ (omega arith) c.event-item.is before.lengths c.line_len.ensures c.push_reserved.ensures.items;
      len = omega (arith, before.len, c.push_reserved.ensures.len);
      room = omega (arith, before.room, c.push_reserved.ensures.capacity);
    }

pub push_reserved-requires : goal.push_reserved-requires
push_reserved-requires c = let before = c.loop-event.invariant in omega (arith, before.len, before.room, c.loop-event-test.true)

pub take-requires-clause-room : goal.take-requires-clause-room
take-requires-clause-room c = grind (arith, elements)

pub returns-in_err-take-clause-settled : goal.returns-in_err-take-clause-settled
returns-in_err-take-clause-settled c = grind (arith, elements)

pub returns-clause-follows : goal.returns-clause-follows
returns-clause-follows c = grind (arith, elements)

pub returns-clause-lengths : goal.returns-clause-lengths
returns-clause-lengths c = grind (arith, elements)
