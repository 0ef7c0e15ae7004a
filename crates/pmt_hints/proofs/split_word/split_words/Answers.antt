use Rattle.std.proofs.Common.{sym, subst}
use Rattle.pmt_hints.specs.Hints.{AreThose, IsSplitWord}
use Rattle.pmt_hints.proofs.split_word.split_words.Goals as goal

pub selection_of-requires : goal.selection_of-requires
selection_of-requires c = c.in_ok-numbers.ensures.rising

pub returns : goal.returns
returns c = subst (AreThose (IsSplitWord c.args.trace.now c.args.labels.now)) (sym c.selection_of.ensures) c.in_ok-numbers.ensures
