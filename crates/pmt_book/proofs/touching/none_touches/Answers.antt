use Rattle.std.proofs.Common.{arith, sym, ◌∙◌}
use Rattle.std.proofs.lemmas.Grind.{elements}
use Rattle.pmt_book.proofs.TouchingLemmas.{none_touches-stop, none_touches-step}
use Rattle.pmt_book.proofs.touching.none_touches.Goals as goal

pub returns-then-touches : goal.returns-then-touches
returns-then-touches c =
    sym (none_touches-stop c.args.format c.loop-event.rest.now c.in-Some.older.now c.in-Some.event.now c.loop-event.left c.args.line c.args.range c.in-Some-store_to.store
    c.in-Some.ensures.cases.0 c.if-left-eq0.false c.in-Some-store_to.ensures (sym c.if-touches.ensures))
    ∙ c.loop-event.invariant

pub loop-event-preserved-else-touches : goal.loop-event-preserved-else-touches
loop-event-preserved-else-touches c =
    sym (none_touches-step c.args.format c.loop-event.rest.now c.in-Some.older.now c.in-Some.event.now c.loop-event.left c.args.line c.args.range c.in-Some-store_to.store
    c.in-Some.ensures.cases.0 c.if-left-eq0.false c.in-Some-store_to.ensures (sym c.if-touches.ensures))
    ∙ c.loop-event.invariant

pub loop-event-smaller-else-touches : goal.loop-event-smaller-else-touches
loop-event-smaller-else-touches c = grind (arith, elements)

pub loop-event-smaller : goal.loop-event-smaller
loop-event-smaller c = grind (arith, elements)
