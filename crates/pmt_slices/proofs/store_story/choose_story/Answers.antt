use Rattle.std.proofs.Common.{arith}
use Rattle.pmt_slices.proofs.store_story.choose_story.Goals as goal

pub returns : goal.returns
returns c = grind arith
