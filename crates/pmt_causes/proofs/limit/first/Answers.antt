use Rattle.std.proofs.Common.{rules}
use Rattle.pmt_causes.proofs.limit.first.Goals as goal

pub returns : goal.returns
returns g c = search rules
