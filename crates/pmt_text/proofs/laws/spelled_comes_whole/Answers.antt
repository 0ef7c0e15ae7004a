-- The law, as it is proved of the definitions.
use Rattle.pmt_text.proofs.BoundLemmas.{spelled_comes_whole}
use Rattle.pmt_text.proofs.laws.spelled_comes_whole.Goals as goal

pub returns : goal.returns
returns c = spelled_comes_whole
