-- The law, as it is proved of the definitions.
use Rattle.pmt_text.proofs.WholeLemmas.{one_text_of_trace}
use Rattle.pmt_text.proofs.laws.one_text_of_trace.Goals as goal

pub returns : goal.returns
returns c = one_text_of_trace
