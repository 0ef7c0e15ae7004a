use Rattle.std.proofs.Common.{arith}
use Rattle.std.proofs.lemmas.Grind.{elements}
use Rattle.pmt_hints.proofs.stored_after.is_any_left.Goals as goal

pub returns : goal.returns
returns c = grind (arith, elements)

pub loop-index-preserved : goal.loop-index-preserved
loop-index-preserved c = grind (arith, elements)
