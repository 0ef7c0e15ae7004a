use Rattle.std.proofs.Common.{◌<◌, subst, sym, arith}
use Rattle.pmt_tables.specs.Lasts.{low_of, high_of, last_by, IsNewest, IsLeastAbove}
use Rattle.pmt_tables.proofs.ByteLemmas.{whole-newest, whole-oldest}
use Rattle.pmt_tables.proofs.packed.number_in.Goals as goal

pub returns-clause-newest : goal.returns-clause-newest
returns-clause-newest c =
    let before : c.args.low < high_of c.args.word = omega (arith, c.if-high_of-low.false, c.high_of.ensures) in
    let after : low_of c.args.word < c.args.high = omega (arith, c.if-high-low_of.false, c.low_of.ensures) in
    subst (IsNewest c.args.low c.args.high (last_by c.args.word)) (sym c.number_of.ensures) (whole-newest c.args.word c.args.low c.args.high c.requires.whole before after c.requires.some)

pub returns-clause-oldest : goal.returns-clause-oldest
returns-clause-oldest c =
    let before : c.args.low < high_of c.args.word = omega (arith, c.if-high_of-low.false, c.high_of.ensures) in
    let after : low_of c.args.word < c.args.high = omega (arith, c.if-high-low_of.false, c.low_of.ensures) in
    subst (IsLeastAbove 0 c.args.low c.args.high (last_by c.args.word)) (sym c.number_of.ensures) (whole-oldest c.args.word c.args.low c.args.high c.requires.whole before after c.requires.some)
