use Rattle.pmt_part_laws.proofs.RedundantLemmas.{part_redundant_clflush}
use Rattle.pmt_part_laws.proofs.findings.part_redundant_clflush.Goals as goal

pub returns : goal.returns
returns c = part_redundant_clflush
