use Rattle.std.proofs.Common.{◌≡◌, ◌+◌, ◌++◌, length}
use Rattle.pmt_report.specs.Reports.{entries}
use Rattle.pmt_report.proofs.report.push_entries.Given as goal

abbrev pub invariant-loop-findings : goal.invariant-loop-findings
invariant-loop-findings l = l.text.items ++ entries l.findings l.verdicts ≡ l.initial.text.items ++ entries l.initial.findings l.initial.verdicts

abbrev pub decreases-loop-findings : goal.decreases-loop-findings
decreases-loop-findings l = length l.findings + length l.verdicts
