use Rattle.std.proofs.Common.{arith}
use Rattle.pmt_parts.proofs.part.told_events.Goals as goal

pub returns : goal.returns
returns c = grind arith
