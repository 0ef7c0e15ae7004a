use Rattle.std.proofs.Common.{arith}
use Rattle.std.proofs.lemmas.Grind.{elements}
use Rattle.pmt_failures.proofs.unwritten.note_until.Goals as goal

pub returns-clause-noted : goal.returns-clause-noted
returns-clause-noted c = grind (arith, elements)
