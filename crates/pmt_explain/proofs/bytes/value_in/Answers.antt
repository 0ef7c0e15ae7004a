use Rattle.std.proofs.Common.{arith}
use Rattle.std.proofs.lemmas.Grind.{elements}
use Rattle.pmt_explain.proofs.bytes.value_in.Goals as goal

pub returns-clause-value : goal.returns-clause-value
returns-clause-value c = grind (arith, elements)

pub returns-clause-some : goal.returns-clause-some
returns-clause-some c = grind (arith, elements)
