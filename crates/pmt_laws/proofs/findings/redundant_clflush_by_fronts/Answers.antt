-- Proved in RedundantLemmas.
use Rattle.pmt_laws.proofs.RedundantLemmas.{redundant_clflush_by_fronts}
use Rattle.pmt_laws.proofs.findings.redundant_clflush_by_fronts.Goals as goal

pub returns : goal.returns
returns c = redundant_clflush_by_fronts
