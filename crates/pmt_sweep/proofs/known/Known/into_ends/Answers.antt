use Rattle.std.proofs.Common.{arith}
use Rattle.pmt_sweep.proofs.known.Known.into_ends.Goals as goal

pub returns : goal.returns
returns c = grind arith
