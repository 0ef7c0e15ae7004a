use Rattle.pmt_tables.proofs.WrittenLemmas.{overwritten_by_word}
use Rattle.pmt_tables.proofs.word_laws.overwritten_by_word.Goals as goal

pub returns : goal.returns
returns c = overwritten_by_word
