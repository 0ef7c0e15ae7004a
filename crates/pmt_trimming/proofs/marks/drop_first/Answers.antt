use Rattle.std.proofs.Common.{arith}
use Rattle.std.proofs.lemmas.Grind.{elements}
use Rattle.pmt_trimming.proofs.marks.drop_first.Goals as goal

pub returns : goal.returns
returns g c = grind (arith, elements)
