use Rattle.std.proofs.Common.{arith}
use Rattle.pmt_recorder.proofs.laws.refuses_a_lost_op.Goals as goal

pub returns : goal.returns
returns c = λ layout first second t events is. grind (arith, events, is.parts 1 (omega arith))
