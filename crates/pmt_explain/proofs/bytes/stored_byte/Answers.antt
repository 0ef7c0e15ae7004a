use Rattle.std.proofs.Common.{arith}
use Rattle.std.proofs.lemmas.Grind.{elements}
use Rattle.pmt_explain.proofs.bytes.stored_byte.Goals as goal

pub returns-in_ok-value-in-Store-clause-some : goal.returns-in_ok-value-in-Store-clause-some
returns-in_ok-value-in-Store-clause-some c = grind (arith, elements)
