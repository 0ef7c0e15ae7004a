use Rattle.std.proofs.Common.{◌≡◌, length}
use Rattle.pmt_explanation.specs.Summing.{AreFirsts, AreLabelNumbers, first_in}
use Rattle.pmt_explanation.proofs.numbering.label_numbers.Given as goal

abbrev pub invariant-loop-index : goal.invariant-loop-index
invariant-loop-index l = record {
  size : length l.numbers.items ≡ l.index;
  numbers : AreLabelNumbers l.labels l.index l.numbers.items;
  firsts : AreFirsts l.labels l.index (first_in l.firsts);
}
