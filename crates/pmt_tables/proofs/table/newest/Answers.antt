use Rattle.std.proofs.Common.{arith}
use Rattle.pmt_tables.proofs.table.newest.Goals as goal

pub loop-k-preserved : goal.loop-k-preserved
loop-k-preserved c = grind arith
