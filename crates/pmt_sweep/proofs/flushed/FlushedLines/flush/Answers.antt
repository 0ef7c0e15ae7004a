use Rattle.std.proofs.Common.{arith}
use Rattle.std.proofs.lemmas.Grind.{elements}
use Rattle.pmt_sweep.proofs.flushed.FlushedLines.flush.Goals as goal

pub returns-clause-tells : goal.returns-clause-tells
returns-clause-tells c = grind (arith, elements)

pub returns-clause-flushed : goal.returns-clause-flushed
returns-clause-flushed c = grind (arith, elements)
