use Rattle.pmt_laws.proofs.WorkedFindingLemmas.{narrow_line_says}
use Rattle.pmt_laws.proofs.worked.narrow_line.Goals as goal

pub returns : goal.returns
returns c = narrow_line_says
