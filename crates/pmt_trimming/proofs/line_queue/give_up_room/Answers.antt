use Rattle.std.proofs.Common.{arith}
use Rattle.std.proofs.lemmas.Grind.{elements}
use Rattle.pmt_trimming.proofs.line_queue.give_up_room.Goals as goal

pub returns-then-start-len-clause-text : goal.returns-then-start-len-clause-text
returns-then-start-len-clause-text c = grind (arith, elements)

pub returns-then-start-len-clause-rest : goal.returns-then-start-len-clause-rest
returns-then-start-len-clause-rest c = grind (arith, elements)

pub returns-then-start-len-clause-within : goal.returns-then-start-len-clause-within
returns-then-start-len-clause-within c = grind (arith, elements)
