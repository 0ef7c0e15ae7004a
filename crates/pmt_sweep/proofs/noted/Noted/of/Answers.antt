use Rattle.std.proofs.Common.{arith}
use Rattle.pmt_sweep.proofs.noted.Noted.of.Goals as goal

pub returns-in-RedundantFlush-clause-value : goal.returns-in-RedundantFlush-clause-value
returns-in-RedundantFlush-clause-value c = grind arith
