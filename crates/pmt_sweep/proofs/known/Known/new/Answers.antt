use Rattle.std.proofs.Common.{rules}
use Rattle.pmt_sweep.proofs.known.Known.new.Goals as goal

pub returns : goal.returns
returns c = search rules
