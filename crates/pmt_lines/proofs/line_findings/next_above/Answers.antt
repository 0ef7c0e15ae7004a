use Rattle.std.proofs.Common.{arith}
use Rattle.std.proofs.lemmas.Grind.{elements}
use Rattle.pmt_lines.proofs.line_findings.next_above.Goals as goal

pub loop-number-preserved : goal.loop-number-preserved
loop-number-preserved c = grind (arith, elements)

pub returns-then-least-eq-ABOVE_ALL : goal.returns-then-least-eq-ABOVE_ALL
returns-then-least-eq-ABOVE_ALL c = grind (arith, elements)

pub returns-else-least-eq-ABOVE_ALL : goal.returns-else-least-eq-ABOVE_ALL
returns-else-least-eq-ABOVE_ALL c = grind (arith, elements)
