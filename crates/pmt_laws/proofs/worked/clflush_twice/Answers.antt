use Rattle.pmt_laws.proofs.WorkedFindingLemmas.{clflush_twice_says}
use Rattle.pmt_laws.proofs.worked.clflush_twice.Goals as goal

pub returns : goal.returns
returns c = clflush_twice_says
