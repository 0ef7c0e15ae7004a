use Rattle.pmt_slices.proofs.Prelude.{arith, elements}
use Rattle.pmt_slices.proofs.scan.nothing_comes.Goals as goal

pub returns-clause-each : goal.returns-clause-each
returns-clause-each c = grind (arith, elements)
