use Rattle.std.proofs.Common.{arith}
use Rattle.std.proofs.lemmas.Grind.{elements}
use Rattle.pmt_recorder.proofs.shelf.Shelf.events.Goals as goal

pub returns-clause-whose : goal.returns-clause-whose
returns-clause-whose g c = grind (arith, elements)
