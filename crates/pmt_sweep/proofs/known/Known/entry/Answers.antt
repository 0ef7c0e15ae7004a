use Rattle.std.proofs.Common.{rules}
use Rattle.pmt_sweep.proofs.known.Known.entry.Goals as goal

pub returns : goal.returns
returns c = search rules
