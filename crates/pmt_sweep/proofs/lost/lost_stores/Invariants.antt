use Rattle.std.proofs.Common.{◌-◌}
use Rattle.pmt_model.specs.Traces.{Recording}
use Rattle.pmt_sweep.specs.Entries.{AreLostAfter, AreMarked}
use Rattle.pmt_sweep.proofs.LostLemmas.{AreLateTo}
use Rattle.pmt_sweep.proofs.lost.lost_stores.Given as goal

abbrev pub invariant-loop-number : goal.invariant-loop-number
invariant-loop-number l = (T : Recording) → AreMarked T l.entries → AreLostAfter T l.before → AreLateTo T (l.number - 1) l.lost.items
