use Rattle.std.proofs.Common.{arith}
use Rattle.std.proofs.lemmas.Grind.{elements}
use Rattle.pmt_rows.proofs.flushers.Flushers.add_to_table.Goals as goal

pub invariant_of-self : goal.invariant_of-self
invariant_of-self c = grind (arith, elements)
