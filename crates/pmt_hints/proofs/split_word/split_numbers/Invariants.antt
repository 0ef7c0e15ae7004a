use Rattle.pmt_hints.specs.Hints.{IsSplitWord}
use Rattle.pmt_hints.specs.Claiming.{AreUpTo}
use Rattle.pmt_hints.proofs.SplitLemmas.{StoresUpTo}
use Rattle.pmt_hints.proofs.split_word.split_numbers.Given as goal

abbrev pub invariant-loop-index : goal.invariant-loop-index
invariant-loop-index l = record {
  stores : StoresUpTo l.trace l.index l.stores;
  numbers : AreUpTo (IsSplitWord l.trace l.labels) l.index l.numbers.items;
}
