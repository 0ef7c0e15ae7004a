use Rattle.std.proofs.Common.{arith}
use Rattle.pmt_sweep.proofs.known.Known.find.Goals as goal

pub returns-clause-found : goal.returns-clause-found
returns-clause-found c = grind arith
