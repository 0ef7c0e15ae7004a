use Rattle.std.proofs.Common.{arith}
use Rattle.pmt_marks.proofs.state.LineState.on_flush.Goals as goal

pub set_mark-requires : goal.set_mark-requires
set_mark-requires c = grind arith

pub invariant_of-self : goal.invariant_of-self
invariant_of-self c = grind arith
