use Rattle.std.proofs.Common.{◌≡◌, ℕ, ◌+◌, ◌≤◌, ◌++◌, List, length, Option}
use Rattle.pmt_text.specs.Counting.{inner_device, failure_count}
use Rattle.pmt_report.specs.Reports.{entries}
use Rattle.pmt_report.specs.Runs.{IsPut}
use Rattle.pmt_report.proofs.ChunkLemmas.{IsUnderWay}
use Rattle.pmt_report.proofs.report.write_entries.Given as goal

abbrev pub invariant-loop-findings : goal.invariant-loop-findings
invariant-loop-findings g l =
    (failure_count l.writer ≡ failure_count l.initial.writer)
    × ((before : Option (List ℕ)) (text : List ℕ) → length text ≤ 128 → IsPut before (g.W.Write.contents (inner_device l.initial.writer)) text l.initial.chunks
    → IsUnderWay before (g.W.Write.contents (inner_device l.writer)) (text ++ entries l.initial.findings l.initial.verdicts) (entries l.findings l.verdicts) (length l.findings + length l.verdicts) l.chunks)

abbrev pub decreases-loop-findings : goal.decreases-loop-findings
decreases-loop-findings g l = length l.findings + length l.verdicts
