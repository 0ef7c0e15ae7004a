use Rattle.pmt_laws.proofs.WorkedLemmas.{store_after_flush_says}
use Rattle.pmt_laws.proofs.worked.store_after_flush.Goals as goal

pub returns : goal.returns
returns c = store_after_flush_says
