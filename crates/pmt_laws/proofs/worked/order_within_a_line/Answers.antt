use Rattle.pmt_laws.proofs.WorkedFindingLemmas.{order_within_a_line_says}
use Rattle.pmt_laws.proofs.worked.order_within_a_line.Goals as goal

pub returns : goal.returns
returns c = order_within_a_line_says
