-- The law, as it is proved of the definitions.
use Rattle.pmt_text.proofs.WholeLemmas.{first_version_stays}
use Rattle.pmt_text.proofs.laws.first_version_stays.Goals as goal

pub returns : goal.returns
returns c = first_version_stays
