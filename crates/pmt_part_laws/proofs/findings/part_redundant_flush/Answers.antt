use Rattle.pmt_part_laws.proofs.RedundantLemmas.{part_redundant_flush}
use Rattle.pmt_part_laws.proofs.findings.part_redundant_flush.Goals as goal

pub returns : goal.returns
returns c = part_redundant_flush
