use Rattle.pmt_part_laws.proofs.NeverLemmas.{part_never_persists}
use Rattle.pmt_part_laws.proofs.findings.part_never_persists.Goals as goal

pub returns : goal.returns
returns c = part_never_persists
