use Rattle.std.proofs.Common.{ℕ, ◌<◌}
use Rattle.pmt_model.specs.Traces.{Recording}
use Rattle.pmt_sweep.specs.Known.{IsKnownOf}
use Rattle.pmt_sweep.specs.Judged.{IsLineOrdered, AreOldestOf}
use Rattle.pmt_sweep.proofs.order.is_ordered.Given as goal

abbrev pub invariant-loop-line : goal.invariant-loop-line
invariant-loop-line l = (T : Recording) (n : ℕ) → IsKnownOf T n l.known → AreOldestOf T n l.fn.oldest.found.items → AreOldestOf T n l.oldest.found.items × ((k : ℕ) → k < l.line → IsLineOrdered T n l.known.links l.fn.first l.fn.second k)
