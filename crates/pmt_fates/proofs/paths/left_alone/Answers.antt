use Rattle.std.proofs.Common.{arith}
use Rattle.pmt_fates.proofs.paths.left_alone.Goals as goal

pub collect-requires-clause-can : goal.collect-requires-clause-can
collect-requires-clause-can c = omega arith
