use Rattle.std.proofs.Common.{drop}
use Rattle.pmt_lines.proofs.FoundLemmas.{Scanning}
use Rattle.pmt_lines.proofs.line_findings.line_findings.Given as goal

abbrev pub invariant-loop-step : goal.invariant-loop-step
invariant-loop-step l = Scanning l.job.line l.steps (drop l.step-index l.steps) l.ending l.scan l.found.items
