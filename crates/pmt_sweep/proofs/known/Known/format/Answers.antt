use Rattle.std.proofs.Common.{rules}
use Rattle.pmt_sweep.proofs.known.Known.format.Goals as goal

pub returns : goal.returns
returns c = search rules
