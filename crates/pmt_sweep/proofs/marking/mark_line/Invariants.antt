use Rattle.std.proofs.Common.{ℕ, ◌<◌}
use Rattle.pmt_model.specs.Traces.{Recording}
use Rattle.pmt_sweep.specs.Entries.{IsLost, IsLineEnd}
use Rattle.pmt_sweep.proofs.MarkingLemmas.{IsWalking}
use Rattle.pmt_sweep.proofs.marking.mark_line.Given as goal

abbrev pub invariant-loop-number : goal.invariant-loop-number
invariant-loop-number l = (T : Recording) (k : ℕ) → IsLineEnd T k l.row l.fn.entries → IsWalking T k l.fn.entries l.entries l.number × ((j : ℕ) → IsLost T k j → l.number < j → l.before < j)

abbrev pub decreases-loop-number : goal.decreases-loop-number
decreases-loop-number l = l.number
