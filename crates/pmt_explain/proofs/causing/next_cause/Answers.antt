use Rattle.std.proofs.Common.{arith}
use Rattle.std.proofs.lemmas.Grind.{common_steps, elements}
use Rattle.pmt_explain.proofs.causing.next_cause.Goals as goal

pub returns-then-line_of-line-2-clause-cause : goal.returns-then-line_of-line-2-clause-cause
returns-then-line_of-line-2-clause-cause c = grind (arith, common_steps)

pub returns-then-line_of-line-clause-flushed : goal.returns-then-line_of-line-clause-flushed
returns-then-line_of-line-clause-flushed c = grind (arith, elements)
