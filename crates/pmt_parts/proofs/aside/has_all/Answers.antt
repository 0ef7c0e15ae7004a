use Rattle.std.proofs.Common.{arith}
use Rattle.pmt_parts.proofs.aside.has_all.Goals as goal

pub loop-byte-preserved : goal.loop-byte-preserved
loop-byte-preserved c = grind arith
