use Rattle.std.proofs.Common.{arith}
use Rattle.std.proofs.lemmas.Grind.{elements}
use Rattle.pmt_trimming.proofs.marks.move_first.Goals as goal

pub returns-clause-size : goal.returns-clause-size
returns-clause-size g c = grind (arith, elements)
