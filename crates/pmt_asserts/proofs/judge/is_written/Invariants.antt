use Rattle.pmt_model.specs.Traces.{Recording}
use Rattle.pmt_asserts.specs.Tables.{EachIn, Knows, IsUnwritten}
use Rattle.pmt_asserts.proofs.LineLemmas.{HoldsBelow}
use Rattle.pmt_asserts.proofs.judge.is_written.Given as goal

abbrev pub invariant-loop-line : goal.invariant-loop-line
invariant-loop-line l = (T : Recording) → Knows l.tables l.format l.number T → HoldsBelow l.first l.line (λ line. EachIn T line l.range (IsUnwritten T l.number))
