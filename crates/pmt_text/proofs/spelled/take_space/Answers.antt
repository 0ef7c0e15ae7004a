use Rattle.std.proofs.Common.{arith}
use Rattle.std.proofs.lemmas.Grind.{elements}
use Rattle.pmt_text.proofs.spelled.take_space.Goals as goal

pub returns-in-32 : goal.returns-in-32
returns-in-32 c = grind (arith, elements)
