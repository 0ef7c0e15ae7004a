-- The law, as it is proved of the definitions.
use Rattle.pmt_text.proofs.WholeLemmas.{within_bound}
use Rattle.pmt_text.proofs.laws.within_bound.Goals as goal

pub returns : goal.returns
returns c = within_bound
