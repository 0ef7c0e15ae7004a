use Rattle.pmt_slices.proofs.Prelude.{arith, moves}
use Rattle.pmt_slices.proofs.store_story.StoreStory.left_out.Goals as goal

pub returns : goal.returns
returns c = grind (arith, moves)
