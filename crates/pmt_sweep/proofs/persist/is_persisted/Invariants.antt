use Rattle.std.proofs.Common.{ℕ, ◌<◌}
use Rattle.pmt_model.specs.Traces.{Recording}
use Rattle.pmt_sweep.specs.Known.{IsKnownOf}
use Rattle.pmt_sweep.specs.Judged.{IsLineSafe}
use Rattle.pmt_sweep.proofs.persist.is_persisted.Given as goal

abbrev pub invariant-loop-line : goal.invariant-loop-line
invariant-loop-line l = (T : Recording) (n : ℕ) → IsKnownOf T n l.known → (k : ℕ) → k < l.line → IsLineSafe T n l.fn.range k
