use Rattle.std.proofs.Common.{arith}
use Rattle.std.proofs.lemmas.Grind.{moves, common_steps}
use Rattle.pmt_sweep.proofs.first_flush.reach.Goals as goal

pub returns-in_ok-push-clause-same : goal.returns-in_ok-push-clause-same
returns-in_ok-push-clause-same c = grind (arith, common_steps)

pub returns-in_ok-resize-clause-same : goal.returns-in_ok-resize-clause-same
returns-in_ok-resize-clause-same c = grind (arith, common_steps)

pub returns-in_ok-push-clause-many : goal.returns-in_ok-push-clause-many
returns-in_ok-push-clause-many c = grind (arith, moves)

pub returns-else-many-slot-2-clause-many : goal.returns-else-many-slot-2-clause-many
returns-else-many-slot-2-clause-many c = grind (arith, common_steps)
