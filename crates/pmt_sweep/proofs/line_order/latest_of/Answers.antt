use Rattle.std.proofs.Common.{◌+◌, sym, ◌∙◌, arith}
use Rattle.std.proofs.lemmas.Grind.{elements}
use Rattle.pmt_sweep.proofs.LatestLemmas.{from-all, from-pending}
use Rattle.pmt_sweep.proofs.line_order.latest_of.Goals as goal

pub returns : goal.returns
returns c = λ T n A B known spanned second.
    from-all T n c.args.known.now.links A c.loop-line.line B c.args.lines.now c.loop-line.latest spanned (omega (arith, c.loop-line-test.false)) (c.loop-line.invariant T n A known spanned)

pub returns-then-is_pending_apart : goal.returns-then-is_pending_apart
returns-then-is_pending_apart c = λ T n A B known spanned second.
    from-pending T n c.args.known.now.links A (c.loop-line.line + 1) B c.args.second.now c.add_placed.new.latest second (sym c.is_pending_apart.ensures ∙ c.if-is_pending_apart.true)
    (c.add_placed.ensures T n A (record { known = known; spanned = spanned; first = c.loop-line.auto.line; last = omega (arith, c.loop-line-test.true) }) (c.loop-line.invariant T n A known spanned))

pub add_placed-requires : goal.add_placed-requires
add_placed-requires c = grind (arith, elements)

pub loop-line-preserved : goal.loop-line-preserved
loop-line-preserved c = grind (arith, elements)
