use Rattle.std.proofs.Common.{arith}
use Rattle.std.proofs.lemmas.Grind.{elements}
use Rattle.pmt_recorder.proofs.scripts.tapes_of.Goals as goal

pub loop-tape-smaller : goal.loop-tape-smaller
loop-tape-smaller g c = grind (arith, elements)
