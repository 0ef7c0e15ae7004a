use Rattle.std.proofs.Common.{arith}
use Rattle.std.proofs.lemmas.Grind.{elements}
use Rattle.pmt_explain.proofs.lost_grouping.add_group.Goals as goal

pub returns-in_err-place : goal.returns-in_err-place
returns-in_err-place c = grind (arith, elements)

pub returns-then-place-len : goal.returns-then-place-len
returns-then-place-len c = grind (arith, elements)
