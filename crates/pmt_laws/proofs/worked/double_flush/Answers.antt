use Rattle.pmt_laws.proofs.WorkedFindingLemmas.{double_flush_says}
use Rattle.pmt_laws.proofs.worked.double_flush.Goals as goal

pub returns : goal.returns
returns c = double_flush_says
