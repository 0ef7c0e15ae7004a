use Rattle.pmt_model.specs.Traces.{Recording}
use Rattle.pmt_asserts.specs.Tables.{Knows}
use Rattle.pmt_asserts.proofs.EarliestLemmas.{EarliestOfBelow}
use Rattle.pmt_asserts.proofs.judge.earliest.Given as goal

abbrev pub invariant-loop-line : goal.invariant-loop-line
invariant-loop-line l = (T : Recording) → Knows l.tables l.format l.number T → EarliestOfBelow T l.number l.skipped l.range l.line l.earliest
