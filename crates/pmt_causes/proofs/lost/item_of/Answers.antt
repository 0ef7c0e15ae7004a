use Rattle.std.proofs.Common.{arith}
use Rattle.pmt_causes.proofs.lost.item_of.Goals as goal

pub returns : goal.returns
returns c = grind arith
