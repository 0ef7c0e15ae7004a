use Rattle.std.proofs.Common.{rules}
use Rattle.pmt_slices.proofs.coming.Coming.before_flush.Goals as goal

pub returns-else-by-self-clause-sooner : goal.returns-else-by-self-clause-sooner
returns-else-by-self-clause-sooner c = search rules
