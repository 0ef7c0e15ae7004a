-- The law, as it is proved of the definitions.
use Rattle.pmt_text.proofs.WholeLemmas.{scripts_are_spelled}
use Rattle.pmt_text.proofs.laws.scripts_are_spelled.Goals as goal

pub returns : goal.returns
returns c = scripts_are_spelled
