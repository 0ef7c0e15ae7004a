use Rattle.pmt_part_laws.proofs.NeverLemmas.{part_flushed_after}
use Rattle.pmt_part_laws.proofs.findings.part_flushed_after.Goals as goal

pub returns : goal.returns
returns c = part_flushed_after
