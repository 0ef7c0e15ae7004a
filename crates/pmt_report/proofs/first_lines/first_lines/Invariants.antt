use Rattle.std.proofs.Common.{◌≤◌, ℕ, List, Option}
use Rattle.pmt_model.specs.Traces.{Recording}
use Rattle.pmt_taking.specs.Sourcing.{shown_by}
use Rattle.pmt_taking.proofs.SourceRunLemmas.{SoFar}
use Rattle.pmt_report.specs.Reports.{AreLinesOf}
use Rattle.pmt_report.proofs.first_lines.first_lines.Given as goal

abbrev pub invariant-first : goal.invariant-first
invariant-first g l =
    let source = g.S.EventSource in
    let shown = shown_by source.coming source.state source.known_format source.failures source.room in
    (T : Recording) × SoFar (shown l.fn.source) (shown l.source) T × AreLinesOf T l.lines × (l.lines.events ≤ l.most) × ((first : Option (List ℕ)) → source.within l.fn.source first → source.within l.source first)

abbrev pub decreases-first : goal.decreases-first
decreases-first g l = g.S.EventSource.room l.source
