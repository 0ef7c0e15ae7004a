use Rattle.std.proofs.Common.{◌≡◌, drop}
use Rattle.pmt_lines.specs.Jobs.{last_flush_of}
use Rattle.pmt_lines.proofs.line_findings.last_flush.Given as goal

abbrev pub invariant-loop-step : goal.invariant-loop-step
invariant-loop-step l = last_flush_of l.last (drop l.step-index l.steps) ≡ last_flush_of 0 l.steps
