use Rattle.std.proofs.Common.{rules}
use Rattle.pmt_slices.proofs.coming.Coming.before_clflush.Goals as goal

pub returns-clause-safe : goal.returns-clause-safe
returns-clause-safe c = search rules
