use Rattle.pmt_model.specs.Traces.{Recording}
use Rattle.pmt_asserts.specs.Tables.{IsLineOrdered, Knows, place_for}
use Rattle.pmt_asserts.proofs.LineLemmas.{HoldsBelow}
use Rattle.pmt_asserts.proofs.judge.is_ordered.Given as goal

abbrev pub invariant-loop-line : goal.invariant-loop-line
invariant-loop-line l = (T : Recording) → Knows l.tables l.format l.number T → HoldsBelow l.start l.line (λ line. IsLineOrdered T l.number l.first l.second line (place_for l.found l.other line))
