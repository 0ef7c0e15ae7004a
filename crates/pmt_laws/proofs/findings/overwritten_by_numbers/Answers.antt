-- Proved in OverwrittenLemmas.
use Rattle.pmt_laws.proofs.OverwrittenLemmas.{overwritten_by_numbers}
use Rattle.pmt_laws.proofs.findings.overwritten_by_numbers.Goals as goal

pub returns : goal.returns
returns c = overwritten_by_numbers
