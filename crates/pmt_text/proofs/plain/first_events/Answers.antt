use Rattle.std.proofs.Common.{arith}
use Rattle.std.proofs.lemmas.Grind.{elements}
use Rattle.pmt_text.proofs.plain.first_events.Goals as goal

pub line-smaller : goal.line-smaller
line-smaller c = grind (arith, elements)
