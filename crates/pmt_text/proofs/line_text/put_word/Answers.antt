use Rattle.std.proofs.Common.{arith}
use Rattle.std.proofs.lemmas.Grind.{elements}
use Rattle.pmt_text.proofs.line_text.put_word.Goals as goal

pub loop-left-init : goal.loop-left-init
loop-left-init c = grind (arith, elements)

pub loop-left-preserved : goal.loop-left-preserved
loop-left-preserved c = grind (arith, elements)
