use Rattle.std.proofs.Common.{arith}
use Rattle.pmt_slices.proofs.story.choose_failure.Goals as goal

pub returns : goal.returns
returns c = grind arith
