use Rattle.pmt_fates.proofs.Prelude.{arith, moves}
use Rattle.pmt_fates.proofs.fences.note.Goals as goal

pub returns-in-Sfence-clause-waits : goal.returns-in-Sfence-clause-waits
returns-in-Sfence-clause-waits c = grind arith

pub returns-in-Clwb-clause-waits : goal.returns-in-Clwb-clause-waits
returns-in-Clwb-clause-waits c = grind (arith, moves)
