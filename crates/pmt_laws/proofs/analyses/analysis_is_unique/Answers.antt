use Rattle.pmt_laws.proofs.AnalysisLemmas.{analysis_is_unique}
use Rattle.pmt_laws.proofs.analyses.analysis_is_unique.Goals as goal

pub returns : goal.returns
returns c = analysis_is_unique
