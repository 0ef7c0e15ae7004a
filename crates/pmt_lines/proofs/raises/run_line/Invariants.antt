use Rattle.std.proofs.Common.{drop}
use Rattle.pmt_lines.proofs.RunLemmas.{Running}
use Rattle.pmt_lines.proofs.raises.run_line.Given as goal

abbrev pub invariant-loop-step : goal.invariant-loop-step
invariant-loop-step l = Running l.fn.job.line l.steps (drop l.step-index l.steps) l.state l.raises.items
