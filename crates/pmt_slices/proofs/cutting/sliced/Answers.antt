use Rattle.pmt_slices.proofs.Prelude.{arith, moves}
use Rattle.pmt_slices.proofs.cutting.sliced.Goals as goal

pub cut_to-requires-clause-assertion : goal.cut_to-requires-clause-assertion
cut_to-requires-clause-assertion c = grind arith

pub cut_to-requires-clause-slice : goal.cut_to-requires-clause-slice
cut_to-requires-clause-slice c = grind arith

pub returns-in-None : goal.returns-in-None
returns-in-None c = grind arith

pub returns-in_ok-cut_to-in-Some : goal.returns-in_ok-cut_to-in-Some
returns-in_ok-cut_to-in-Some c = grind (arith, moves)
