use Rattle.pmt_laws.proofs.WorkedAnalysisLemmas.{every_finding_says}
use Rattle.pmt_laws.proofs.worked.every_finding.Goals as goal

pub returns : goal.returns
returns c = every_finding_says
