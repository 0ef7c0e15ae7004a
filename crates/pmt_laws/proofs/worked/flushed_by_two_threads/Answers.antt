use Rattle.pmt_laws.proofs.WorkedLemmas.{flushed_by_two_threads_says}
use Rattle.pmt_laws.proofs.worked.flushed_by_two_threads.Goals as goal

pub returns : goal.returns
returns c = flushed_by_two_threads_says
