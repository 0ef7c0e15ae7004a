use Rattle.pmt_laws.proofs.WorkedFindingLemmas.{wide_line_says}
use Rattle.pmt_laws.proofs.worked.wide_line.Goals as goal

pub returns : goal.returns
returns c = wide_line_says
