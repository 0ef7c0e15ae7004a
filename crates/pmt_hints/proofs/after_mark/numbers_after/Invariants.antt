use Rattle.pmt_hints.specs.Claiming.{AreUpTo}
use Rattle.pmt_hints.specs.Numbers.{IsAfterMark}
use Rattle.pmt_hints.proofs.MarkingLemmas.{MarksUpTo, RecentUpTo}
use Rattle.pmt_hints.proofs.StoredAfterLemmas.{FencesUpTo}
use Rattle.pmt_hints.proofs.after_mark.numbers_after.Given as goal

abbrev pub invariant-loop-index : goal.invariant-loop-index
invariant-loop-index l = record {
  fences : FencesUpTo l.trace l.index l.fences;
  recent : RecentUpTo l.trace l.index l.recent;
  marks : MarksUpTo l.trace l.labels l.index l.last;
  numbers : AreUpTo (IsAfterMark l.trace l.labels) l.index l.numbers.items;
}
