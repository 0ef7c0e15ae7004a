use Rattle.std.proofs.Common.{◌≤◌, arith}
use Rattle.pmt_failures.proofs.WrittenLemmas.{powers, shifted}
use Rattle.pmt_failures.proofs.written.bits_between.Goals as goal

pub overflow_sub-result : goal.overflow_sub-result
overflow_sub-result c =
    let most : c.args.low ≤ 64 = omega (arith, c.requires.order, c.requires.within) in
    omega (arith, shifted c.args.low most, shifted c.args.high c.requires.within, (powers c.args.low c.args.high c.requires.order c.requires.within).1)

pub returns : goal.returns
returns c =
    let most : c.args.low ≤ 64 = omega (arith, c.requires.order, c.requires.within) in
    omega (arith, shifted c.args.low most, shifted c.args.high c.requires.within, powers c.args.low c.args.high c.requires.order c.requires.within)
