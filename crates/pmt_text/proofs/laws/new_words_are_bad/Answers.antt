-- The law, as it is proved of the definitions.
use Rattle.pmt_text.proofs.WholeLemmas.{new_words_are_bad}
use Rattle.pmt_text.proofs.laws.new_words_are_bad.Goals as goal

pub returns : goal.returns
returns c = new_words_are_bad
