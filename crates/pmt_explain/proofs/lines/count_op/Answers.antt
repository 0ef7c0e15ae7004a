use Rattle.std.proofs.Common.{arith}
use Rattle.pmt_explain.proofs.lines.count_op.Goals as goal
use Rattle.pmt_explain.proofs.lines.count_op.Goals.{then-number-persisted_to, else-number-persisted_to}

pub count-requires-clause-stores : goal.count-requires-clause-stores
count-requires-clause-stores c = omega (arith, (c.requires.below c.line_of-line.result).0, c.requires.number)

pub count-requires-clause-persisted : goal.count-requires-clause-persisted
count-requires-clause-persisted c =
    elim c.if-number-persisted_to.branch [
      | then-number-persisted_to w ↦ omega (arith, w.persisted-is, (c.requires.below c.line_of-line.result).1, c.requires.number)
      | else-number-persisted_to w ↦ omega (arith, w.persisted-is, (c.requires.below c.line_of-line.result).1, c.requires.number)
    ]

pub count-requires-in-Clwb-clause-stores : goal.count-requires-in-Clwb-clause-stores
count-requires-in-Clwb-clause-stores c = omega (arith, (c.requires.below c.line_of.result).0, c.requires.number)

pub count-requires-in-Clwb-clause-persisted : goal.count-requires-in-Clwb-clause-persisted
count-requires-in-Clwb-clause-persisted c = omega (arith, (c.requires.below c.line_of.result).1, c.requires.number)
