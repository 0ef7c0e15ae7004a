use Rattle.std.proofs.Common.{◌≡◌, suc, ◌+◌, length, subst, arith}
use Rattle.pmt_model.specs.Traces.{with_events}
use Rattle.pmt_sweep.specs.Passing.{IsPassOf}
use Rattle.pmt_sweep.proofs.GrowingLemmas.{event-next, pass-more, pass-whole}
use Rattle.pmt_sweep.proofs.sweeping.Sweeper.take.Goals as goal

pub loop-index-init : goal.loop-index-init
loop-index-init c T swept trace =
    let first : length T.events ≡ length T.events + 0 = omega arith in
    subst (λ n. IsPassOf (with_events T c.args.events.now) n c.args.self.now) first (pass-more T c.args.events.now c.args.self.now trace swept)

pub take_event-requires : goal.take_event-requires
take_event-requires c =
    let T = c.requires.0 in
    let es = c.args.events.now in
    (with_events T es, length T.events + c.loop-index.index, c.loop-index.invariant T c.requires.1 c.requires.2, event-next T es c.loop-index.index c.index-events-index.result c.loop-index-test.true c.index-events-index.is)

pub loop-index-preserved : goal.loop-index-preserved
loop-index-preserved c T swept trace =
    let es = c.args.events.now in
    let i = c.loop-index.index in
    let more : suc (length T.events + i) ≡ length T.events + (i + 1) = omega arith in
    subst (λ n. IsPassOf (with_events T es) n c.take_event.new.self) more
    (c.in_ok-take_event.ensures (with_events T es) (length T.events + i) (c.loop-index.invariant T swept trace) (event-next T es i c.index-events-index.result c.loop-index-test.true c.index-events-index.is))

pub returns : goal.returns
returns c T swept trace =
    let all : length T.events + c.loop-index.index ≡ length T.events + length c.args.events.now = omega (arith, c.loop-index-test.false, c.loop-index.auto.index-end) in
    pass-whole T c.args.events.now (length T.events + c.loop-index.index) c.loop-index.self all (c.loop-index.invariant T swept trace)
