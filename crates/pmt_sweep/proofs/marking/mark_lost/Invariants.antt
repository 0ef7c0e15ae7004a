use Rattle.std.proofs.Common.{length}
use Rattle.pmt_model.specs.Traces.{Recording}
use Rattle.pmt_sweep.specs.Entries.{AreEndsOf}
use Rattle.pmt_sweep.proofs.MarkedLemmas.{AreMarkedTo, AreLostAfterTo}
use Rattle.pmt_sweep.proofs.marking.mark_lost.Given as goal

abbrev pub invariant-loop-slot : goal.invariant-loop-slot
invariant-loop-slot l = (T : Recording) → AreEndsOf T (length T.events) l.rows l.fn.entries → AreMarkedTo T l.fn.entries l.entries l.slot × AreLostAfterTo T l.slot l.before
