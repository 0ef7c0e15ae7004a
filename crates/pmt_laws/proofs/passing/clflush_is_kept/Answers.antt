use Rattle.pmt_laws.proofs.PassLemmas.{clflush_is_kept}
use Rattle.pmt_laws.proofs.passing.clflush_is_kept.Goals as goal

pub returns : goal.returns
returns c = clflush_is_kept
