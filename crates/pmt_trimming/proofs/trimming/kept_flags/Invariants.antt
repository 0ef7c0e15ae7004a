use Rattle.std.proofs.Common.{◌≡◌}
use Rattle.pmt_trimming.specs.Passing.{IsPassOf}
use Rattle.pmt_trimming.proofs.TrimmingLemmas.{first_events}
use Rattle.pmt_trimming.proofs.trimming.kept_flags.Given as goal

abbrev pub invariant-loop-event : goal.invariant-loop-event
invariant-loop-event l = record {
  passing : IsPassOf (first_events l.trace l.event-index) l.pass;
  settled : l.pass.settled ≡ 0;
}
