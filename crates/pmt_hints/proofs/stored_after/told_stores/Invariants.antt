use Rattle.pmt_hints.specs.Claiming.{AreUpTo}
use Rattle.pmt_hints.specs.Hints.{IsStoredAfterFlush}
use Rattle.pmt_hints.proofs.LeftLemmas.{EndedUpTo}
use Rattle.pmt_hints.proofs.stored_after.told_stores.Given as goal

abbrev pub invariant-loop-index : goal.invariant-loop-index
invariant-loop-index l = record {
  last : EndedUpTo l.trace l.fences l.ends l.index l.last;
  numbers : AreUpTo (IsStoredAfterFlush l.trace) l.index l.numbers.items;
}
