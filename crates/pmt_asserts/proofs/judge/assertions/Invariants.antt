use Rattle.pmt_asserts.specs.Tables.{AreAssertions}
use Rattle.pmt_asserts.proofs.judge.assertions.Given as goal

abbrev pub invariant-loop-index : goal.invariant-loop-index
invariant-loop-index l = AreAssertions l.trace l.index l.numbers.items
