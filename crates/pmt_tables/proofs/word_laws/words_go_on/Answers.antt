use Rattle.pmt_tables.proofs.WrittenLemmas.{words_go_on}
use Rattle.pmt_tables.proofs.word_laws.words_go_on.Goals as goal

pub returns : goal.returns
returns c = words_go_on
