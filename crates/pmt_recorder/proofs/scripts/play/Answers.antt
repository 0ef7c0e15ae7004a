use Rattle.std.proofs.Common.{arith}
use Rattle.std.proofs.lemmas.Grind.{elements}
use Rattle.pmt_recorder.proofs.scripts.play.Goals as goal

pub returns : goal.returns
returns g c = grind (arith, elements)
