use Rattle.std.proofs.Common.{ℕ}
use Rattle.pmt_laws.specs.Prelude.{Recording, Span}
use Rattle.pmt_tables.specs.Slots.{IsSpanned}
use Rattle.pmt_sweep.specs.Known.{IsKnownOf}
use Rattle.pmt_sweep.specs.Judged.{AreSafeFromBelow}
use Rattle.pmt_sweep.proofs.line_order.latest_of.Given as goal

abbrev pub invariant-loop-line : goal.invariant-loop-line
invariant-loop-line l = (T : Recording) (n : ℕ) (A : Span) → IsKnownOf T n l.known → IsSpanned T.format A l.lines → AreSafeFromBelow T n l.known.links A l.line l.latest
