use Rattle.std.proofs.Common.{sym, subst, refl, arith}
use Rattle.std.specs.Prelude.{slice_index}
use Rattle.pmt_tables.proofs.AddingLemmas.{IsAdding, adding-more, next-falls}
use Rattle.pmt_tables.proofs.table.push_overwritten.Goals as goal

pub loop-earlier-smaller : goal.loop-earlier-smaller
loop-earlier-smaller c =
    next-falls c.loop-earlier.earlier c.args.low c.args.high c.loop-earlier.earlier c.least_above-earlier-in-loop-earlier.result _ (λ none. omega (arith, none, c.loop-earlier-test.true)) refl c.loop-earlier.invariant.small
    c.least_above-earlier-in-loop-earlier.ensures

pub loop-earlier-preserved : goal.loop-earlier-preserved
loop-earlier-preserved c = record {
  adding = subst (λ xs. IsAdding c.args.flush c.args.later c.args.low c.args.high (λ k. slice_index c.args.table.now.numbers k) c.args.over.now.items xs c.least_above-earlier-in-loop-earlier.result) (sym c.in_ok-push.ensures.items)
      (adding-more c.args.flush c.args.later c.args.low c.args.high (λ k. slice_index c.args.table.now.numbers k) c.args.over.now.items c.loop-earlier.over.items c.loop-earlier.earlier c.least_above-earlier-in-loop-earlier.result
      (λ none. omega (arith, none, c.loop-earlier-test.true)) c.least_above-earlier-in-loop-earlier.ensures c.loop-earlier.invariant.adding);
  small = omega arith;
}
