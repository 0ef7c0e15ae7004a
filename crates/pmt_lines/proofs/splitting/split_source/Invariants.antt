use Rattle.pmt_lines.specs.Splitters.{HasTaken}
use Rattle.pmt_taking.specs.Sourcing.{shown_by}
use Rattle.pmt_taking.proofs.SourceRunLemmas.{SoFar}
use Rattle.pmt_lines.proofs.splitting.split_source.Given as goal

abbrev pub invariant-all : goal.invariant-all
invariant-all g l =
    let source = g.S.EventSource in
    let shown = shown_by source.coming source.state source.known_format source.failures source.room in
    SoFar (shown l.fn.source) (shown l.source) l.trace × HasTaken l.trace l.splitter

abbrev pub decreases-all : goal.decreases-all
decreases-all g l = g.S.EventSource.room l.source
