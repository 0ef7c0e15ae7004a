use Rattle.std.proofs.Common.{arith}
use Rattle.std.proofs.lemmas.Grind.{elements}
use Rattle.pmt_report.proofs.checked.sweep_and_take.Goals as goal

pub take-swept-requires : goal.take-swept-requires
take-swept-requires g c = grind (arith, elements)
