use Rattle.std.proofs.Common.{◌+◌, ◌*◌}
use Rattle.pmt_workers.proofs.halves.+fn-run_in_halves-join+arg2+fn-run_in_halves-join+arg3+run_in_halves.Given as goal

abbrev pub decreases-join+arg2 : goal.decreases-join+arg2
decreases-join+arg2 g l = 2 * l.half + 1

abbrev pub decreases-join+arg3 : goal.decreases-join+arg3
decreases-join+arg3 g l = 2 * l.half + 1

abbrev pub decreases-run_in_halves : goal.decreases-run_in_halves
decreases-run_in_halves g l = 2 * l.workers
