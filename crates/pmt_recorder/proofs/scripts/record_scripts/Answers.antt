use Rattle.std.proofs.Common.{arith}
use Rattle.std.proofs.lemmas.Grind.{elements}
use Rattle.pmt_recorder.proofs.scripts.record_scripts.Goals as goal

pub record_over-requires : goal.record_over-requires
record_over-requires g c = grind (arith, elements)
