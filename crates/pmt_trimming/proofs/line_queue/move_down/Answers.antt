use Rattle.std.proofs.Common.{arith}
use Rattle.std.proofs.lemmas.Grind.{elements}
use Rattle.pmt_trimming.proofs.line_queue.move_down.Goals as goal

pub returns-then-end-start-clause-size : goal.returns-then-end-start-clause-size
returns-then-end-start-clause-size c = grind (arith, elements)

pub returns-else-end-start-clause-text : goal.returns-else-end-start-clause-text
returns-else-end-start-clause-text c = grind (arith, elements)
