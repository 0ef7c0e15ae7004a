use Rattle.std.proofs.Common.{drop}
use Rattle.pmt_lines.proofs.FenceRunLemmas.{FencesRunning}
use Rattle.pmt_lines.proofs.fences.run_fences.Given as goal

abbrev pub invariant-loop-step : goal.invariant-loop-step
invariant-loop-step l = FencesRunning l.steps (drop l.step-index l.steps) l.flushed l.empty.items
