use Rattle.std.proofs.Common.{arith}
use Rattle.std.proofs.lemmas.Grind.{elements}
use Rattle.pmt_recorder.proofs.tape.Tape.has_entry.Goals as goal

pub returns-then-entry-number : goal.returns-then-entry-number
returns-then-entry-number g c = grind (arith, elements)
