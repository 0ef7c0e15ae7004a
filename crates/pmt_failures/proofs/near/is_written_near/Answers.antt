use Rattle.std.proofs.Common.{◌≡◌, ◌-◌, suc, length, Some, ap, arith}
use Rattle.pmt_laws.specs.Prelude.{range_with_len, event}
use Rattle.pmt_failures.proofs.UnwritingLemmas.{event-is, written-before}
use Rattle.pmt_failures.proofs.near.is_written_near.Goals as goal

pub returns-then-writes_any : goal.returns-then-writes_any
returns-then-writes_any c = λ yes.
    let T = c.args.trace.now in
    let es = c.events-events.result.now in
    let r = c.args.range in
    let k = c.loop-index.index - 1 in
    let e = c.index-events-index.result in
    let size : length c.events-events.result.now ≡ length T.events = ap (λ xs. length xs) c.events-events.ensures.value in
    let at : event T (suc k) ≡ Some e = event-is T es k e c.events-events.ensures.value (omega (arith, size, c.requires, c.loop-index-test.true)) c.index-events-index.is in
    written-before T k c.args.count e (range_with_len r.addr r.len) at (omega (arith, c.loop-index-test.true)) c.requires (c.writes_any.ensures c.if-writes_any.true)
