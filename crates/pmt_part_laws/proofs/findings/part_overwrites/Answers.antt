use Rattle.pmt_part_laws.proofs.OverwriteLemmas.{part_overwrites}
use Rattle.pmt_part_laws.proofs.findings.part_overwrites.Goals as goal

pub returns : goal.returns
returns c = part_overwrites
