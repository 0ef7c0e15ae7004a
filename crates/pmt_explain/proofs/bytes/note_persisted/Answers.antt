use Rattle.std.proofs.Common.{arith}
use Rattle.std.proofs.lemmas.Grind.{common_steps, elements}
use Rattle.pmt_explain.proofs.bytes.note_persisted.Goals as goal

pub returns-then-number-persisted_to : goal.returns-then-number-persisted_to
returns-then-number-persisted_to c = grind (arith, common_steps)

pub returns-in-Clwb : goal.returns-in-Clwb
returns-in-Clwb c = grind (arith, elements)
