use Rattle.std.proofs.Common.{rules}
use Rattle.pmt_sweep.proofs.line_words.part_of_word.Goals as goal

pub returns : goal.returns
returns c = search rules
