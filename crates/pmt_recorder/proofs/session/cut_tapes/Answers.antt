use Rattle.std.proofs.Common.{arith}
use Rattle.std.proofs.lemmas.Grind.{elements}
use Rattle.pmt_recorder.proofs.session.cut_tapes.Goals as goal

pub loop-thread-preserved : goal.loop-thread-preserved
loop-thread-preserved g c = grind (arith, elements)

pub returns-clause-tapes : goal.returns-clause-tapes
returns-clause-tapes g c = grind (arith, elements)
