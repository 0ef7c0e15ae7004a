use Rattle.std.proofs.Common.{arith}
use Rattle.pmt_analysis.proofs.Analysis.findings.Goals as goal

pub returns-clause-right : goal.returns-clause-right
returns-clause-right c = grind arith
