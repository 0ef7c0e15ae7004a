use Rattle.std.proofs.Common.{◌≡◌, ℕ, List, Option}
use Rattle.pmt_laws.specs.Prelude.{empty, Recording}
use Rattle.pmt_taking.specs.Sourcing.{shown_by}
use Rattle.pmt_taking.proofs.SourceRunLemmas.{SoFar}
use Rattle.pmt_trimming.specs.Streaming.{IsWholeOf}
use Rattle.pmt_trimming.proofs.whole_text.trimmed_text.Given as goal

abbrev pub invariant-loop-block : goal.invariant-loop-block
invariant-loop-block g l =
    let source = g.S.EventSource in
    let shown = shown_by source.coming source.state source.known_format source.failures source.room in
    (T : Recording) × SoFar (shown l.fn.source) (shown l.source) T × IsWholeOf T l.whole × (l.block ≡ empty T.format) × ((first : Option (List ℕ)) → source.within l.fn.source first → source.within l.source first)

abbrev pub decreases-loop-block : goal.decreases-loop-block
decreases-loop-block g l = g.S.EventSource.room l.source
