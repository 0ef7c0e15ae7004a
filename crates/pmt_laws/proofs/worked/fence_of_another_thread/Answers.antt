use Rattle.pmt_laws.proofs.WorkedLemmas.{fence_of_another_thread_says}
use Rattle.pmt_laws.proofs.worked.fence_of_another_thread.Goals as goal

pub returns : goal.returns
returns c = fence_of_another_thread_says
