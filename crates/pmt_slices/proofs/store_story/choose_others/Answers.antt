use Rattle.pmt_slices.proofs.Prelude.{arith, elements}
use Rattle.pmt_slices.proofs.store_story.choose_others.Goals as goal

pub returns : goal.returns
returns c = grind (arith, elements)

pub loop-index-preserved : goal.loop-index-preserved
loop-index-preserved c = grind (arith, elements)
