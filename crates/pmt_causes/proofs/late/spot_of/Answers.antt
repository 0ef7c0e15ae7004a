use Rattle.std.proofs.Common.{arith}
use Rattle.pmt_causes.proofs.late.spot_of.Goals as goal

pub returns-in-Store : goal.returns-in-Store
returns-in-Store c = grind arith
