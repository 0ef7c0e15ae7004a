use Rattle.pmt_parts.proofs.Prelude.{arith, elements}
use Rattle.pmt_parts.proofs.pieces.Pieces.fill.Goals as goal

pub returns-then-self-clause-some : goal.returns-then-self-clause-some
returns-then-self-clause-some g c = grind (arith, elements)
