-- The law, as it is proved of the definitions.
use Rattle.pmt_text.proofs.BoundLemmas.{spelled_is_short}
use Rattle.pmt_text.proofs.laws.spelled_is_short.Goals as goal

pub returns : goal.returns
returns c = spelled_is_short
