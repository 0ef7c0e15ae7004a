use Rattle.pmt_parts.proofs.Prelude.{arith, elements}
use Rattle.pmt_parts.proofs.pieces.Pieces.is_at_end.Goals as goal

pub returns-clause-end : goal.returns-clause-end
returns-clause-end g c = grind (arith, elements)
