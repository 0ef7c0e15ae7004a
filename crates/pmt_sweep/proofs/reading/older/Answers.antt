use Rattle.std.proofs.Common.{arith}
use Rattle.pmt_sweep.proofs.reading.older.Goals as goal

pub returns-else-other-ne0-clause-second : goal.returns-else-other-ne0-clause-second
returns-else-other-ne0-clause-second c = grind arith
