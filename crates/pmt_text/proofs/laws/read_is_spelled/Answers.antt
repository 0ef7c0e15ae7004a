-- The law, as it is proved of the definitions.
use Rattle.pmt_text.proofs.WholeLemmas.{read_is_spelled}
use Rattle.pmt_text.proofs.laws.read_is_spelled.Goals as goal

pub returns : goal.returns
returns c = read_is_spelled
