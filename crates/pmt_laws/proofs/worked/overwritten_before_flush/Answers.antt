use Rattle.pmt_laws.proofs.WorkedFindingLemmas.{overwritten_before_flush_says}
use Rattle.pmt_laws.proofs.worked.overwritten_before_flush.Goals as goal

pub returns : goal.returns
returns c = overwritten_before_flush_says
