use Rattle.std.proofs.Common.{arith}
use Rattle.std.proofs.lemmas.Grind.{common_steps}
use Rattle.pmt_hints.proofs.places.Places.add_label.Goals as goal

pub returns-clause-labels : goal.returns-clause-labels
returns-clause-labels c = grind (arith, common_steps)
