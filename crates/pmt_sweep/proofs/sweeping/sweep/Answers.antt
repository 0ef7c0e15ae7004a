use Rattle.std.proofs.Common.{arith}
use Rattle.pmt_model.specs.Traces.{empty}
use Rattle.pmt_sweep.proofs.GrowingLemmas.{swept-whole}
use Rattle.pmt_sweep.proofs.sweeping.sweep.Goals as goal

pub finish-requires : goal.finish-requires
finish-requires c =
    (c.args.trace.now, swept-whole c.args.trace.now c.format.result c.events.result.now _ c.format.ensures.value c.events.ensures.value c.events.ensures.is_trace (c.in_ok-take.ensures (empty c.format.result) c.in_ok-sweeper.ensures))

pub returns-clause-lines : goal.returns-clause-lines
returns-clause-lines c =
    c.finish.ensures.lines c.args.trace.now (swept-whole c.args.trace.now c.format.result c.events.result.now _ c.format.ensures.value c.events.ensures.value c.events.ensures.is_trace (c.in_ok-take.ensures (empty c.format.result) c.in_ok-sweeper.ensures))

pub returns-clause-findings : goal.returns-clause-findings
returns-clause-findings c =
    c.finish.ensures.findings c.args.trace.now (swept-whole c.args.trace.now c.format.result c.events.result.now _ c.format.ensures.value c.events.ensures.value c.events.ensures.is_trace (c.in_ok-take.ensures (empty c.format.result) c.in_ok-sweeper.ensures))

pub returns-clause-verdicts : goal.returns-clause-verdicts
returns-clause-verdicts c =
    c.finish.ensures.verdicts c.args.trace.now (swept-whole c.args.trace.now c.format.result c.events.result.now _ c.format.ensures.value c.events.ensures.value c.events.ensures.is_trace (c.in_ok-take.ensures (empty c.format.result) c.in_ok-sweeper.ensures))

pub returns-clause-kept : goal.returns-clause-kept
returns-clause-kept c =
    c.finish.ensures.kept c.args.trace.now (swept-whole c.args.trace.now c.format.result c.events.result.now _ c.format.ensures.value c.events.ensures.value c.events.ensures.is_trace (c.in_ok-take.ensures (empty c.format.result) c.in_ok-sweeper.ensures))

pub returns-clause-safe : goal.returns-clause-safe
returns-clause-safe c =
    c.finish.ensures.safe c.args.trace.now (swept-whole c.args.trace.now c.format.result c.events.result.now _ c.format.ensures.value c.events.ensures.value c.events.ensures.is_trace (c.in_ok-take.ensures (empty c.format.result) c.in_ok-sweeper.ensures))

pub take-requires : goal.take-requires
take-requires c = grind arith
