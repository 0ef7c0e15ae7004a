use Rattle.std.proofs.Common.{ℕ, List, Option}
use Rattle.pmt_taking.specs.Sourcing.{shown_by}
use Rattle.pmt_taking.proofs.SourceRunLemmas.{BlockSoFar}
use Rattle.pmt_taking.proofs.taking.take_block.Given as goal

abbrev pub invariant-block : goal.invariant-block
invariant-block g l =
    let source = g.S.EventSource in
    let shown = shown_by source.coming source.state source.known_format source.failures source.room in
    record {
      block : BlockSoFar l.most (shown l.fn.source) (shown l.source) l.block;
      within : (first : Option (List ℕ)) → source.within l.fn.source first → source.within l.source first;
    }

abbrev pub decreases-block : goal.decreases-block
decreases-block g l = g.S.EventSource.room l.source
