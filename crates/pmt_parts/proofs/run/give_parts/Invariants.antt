use Rattle.pmt_parts.proofs.Prelude.{false, List, [], AllByRecursion, Part, coming, IsCutSoFar, KeepsTo}
use Rattle.pmt_parts.proofs.run.give_parts.Given as goal

abbrev pub invariant-loop : goal.invariant-loop
invariant-loop g l =
    (parts : List Part) × IsCutSoFar l.ignored l.overlap (g.R.Read.remaining l.fn.input) (coming g.R.Read.remaining l.pieces) parts l.part
    × (g.S.PartTaker.took [] false l.fn.taker → g.S.PartTaker.took parts false l.taker) × AllByRecursion (KeepsTo l.most) parts × KeepsTo l.most l.part
