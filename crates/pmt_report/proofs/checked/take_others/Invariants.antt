use Rattle.std.proofs.Common.{◌≡◌, ℕ, List, Option, suc, ◌+◌, ◌==◌, length}
use Rattle.std.specs.Prelude.{if◌then◌else◌}
use Rattle.pmt_laws.specs.Prelude.{Recording, IsTrace, with_events}
use Rattle.pmt_taking.specs.Sourcing.{Shown, shown_by}
use Rattle.pmt_sweep.specs.Passing.{HasSwept}
use Rattle.pmt_report.specs.Checks.{IsTakenSoFar}
use Rattle.pmt_report.proofs.checked.take_others.Given as goal

abbrev pub invariant-take : goal.invariant-take
invariant-take g l =
    let source = g.S.EventSource in
    let shown = shown_by source.coming source.state source.known_format source.failures source.room in
    (T : Recording) × HasSwept T l.sweeper × IsTrace (with_events T l.block.events) × ((before : Shown) → IsTakenSoFar before (shown l.fn.source) l.fn.first (length l.fn.first.events == l.fn.most) → IsTakenSoFar before (shown l.source) (with_events T l.block.events) l.more) × (l.events ≡ length T.events + length l.block.events) × ((first : Option (List ℕ)) → source.within l.fn.source first → source.within l.source first)

abbrev pub decreases-take : goal.decreases-take
decreases-take g l = if l.more then suc (g.S.EventSource.room l.source) else 0
