-- The law, as it is proved of the definitions.
use Rattle.pmt_text.proofs.WholeLemmas.{spelled_is_read}
use Rattle.pmt_text.proofs.laws.spelled_is_read.Goals as goal

pub returns : goal.returns
returns c = spelled_is_read
