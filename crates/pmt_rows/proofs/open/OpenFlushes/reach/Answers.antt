use Rattle.std.proofs.Common.{arith}
use Rattle.std.proofs.lemmas.Grind.{elements}
use Rattle.pmt_rows.proofs.open.OpenFlushes.reach.Goals as goal

pub returns-clause-there : goal.returns-clause-there
returns-clause-there c = grind (arith, elements)
