use Rattle.pmt_part_laws.proofs.FenceLemmas.{part_empty_fence}
use Rattle.pmt_part_laws.proofs.findings.part_empty_fence.Goals as goal

pub returns : goal.returns
returns c = part_empty_fence
