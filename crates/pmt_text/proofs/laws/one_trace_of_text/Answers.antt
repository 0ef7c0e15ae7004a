-- The law, as it is proved of the definitions.
use Rattle.pmt_text.proofs.WholeLemmas.{one_trace_of_text}
use Rattle.pmt_text.proofs.laws.one_trace_of_text.Goals as goal

pub returns : goal.returns
returns c = one_trace_of_text
