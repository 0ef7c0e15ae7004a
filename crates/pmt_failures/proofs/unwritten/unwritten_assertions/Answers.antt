use Rattle.std.proofs.Common.{◌≡◌, ◌<◌, suc, length, Some, arith}
use Rattle.pmt_model.specs.Traces.{event}
use Rattle.pmt_failures.proofs.UnwritingLemmas.{event-is, found-next}
use Rattle.pmt_failures.proofs.unwritten.unwritten_assertions.Goals as goal

pub loop-index-preserved : goal.loop-index-preserved
loop-index-preserved c =
    let T = c.args.trace.now in
    let i = c.loop-index.index in
    let e = c.index-events-index.result in
    let within : i < length c.events-events.result.now = omega arith in
    let is : event T (suc i) ≡ Some e = event-is T c.events-events.result.now i e c.events-events.ensures.value within c.index-events-index.is in
    let are = c.in_ok-note_op.ensures.noted in
    record {
      found = found-next T i e c.loop-index.found.items c.note_op.new.found.items is c.loop-index.invariant.found c.in_ok-note_op.ensures.found;
      noted = record { within = omega (arith, are.within); bytes = are.bytes };
    }
