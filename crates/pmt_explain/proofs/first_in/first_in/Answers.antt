use Rattle.std.proofs.Common.{◌+◌, subst, sym, arith, ◌∙◌}
use Rattle.std.proofs.lemmas.Grind.{elements}
use Rattle.std.specs.Prelude.{nat_le}
use Rattle.pmt_explain.specs.Writers.{Knows}
use Rattle.pmt_explain.specs.declared.first_in.Search.{Search}
use Rattle.pmt_explain.proofs.FirstInLemmas.{in-all, next-block, range-is}
use Rattle.pmt_explain.proofs.first_in.first_in.Goals as goal

pub loop-block-preserved : goal.loop-block-preserved
loop-block-preserved c = λ i knows.
    next-block (record { trace = c.args.trace; safe = c.args.safe; wanted = c.args.wanted; low = c.get-low.result; high = c.get-low.result + c.len.result; whole = nat_le 64 c.line_size.result }) i c.loop-block.block
    c.first_with_block-first.result (c.first_with_block-first.ensures i knows (c.loop-block.invariant i knows))

pub returns : goal.returns
returns c = λ i knows.
    let S : Search = record { trace = c.args.trace; safe = c.args.safe; wanted = c.args.wanted; low = c.get-low.result; high = c.get-low.result + c.len.result; whole = nat_le 64 c.line_size.result } in
    let same = range-is c.args.range c.get-low.result (c.get-low.result + c.len.result) (c.get-low.ensures.value ∙ c.addr.ensures) (omega (arith, c.get-low.ensures.value, c.addr.ensures, c.len.ensures.value)) in
    in-all S (omega (arith, c.len.ensures.value, c.len.ensures.is_range.some)) i c.loop-block.block c.args.range c.loop-block.first same (omega (arith, c.loop-block-test.false))
    (c.loop-block.invariant i (subst (λ A. Knows c.args.trace.now i A c.args.writers.now) (sym same) knows))

pub first_with_block-first-requires-clause-search : goal.first_with_block-first-requires-clause-search
first_with_block-first-requires-clause-search c = grind (arith, elements)
