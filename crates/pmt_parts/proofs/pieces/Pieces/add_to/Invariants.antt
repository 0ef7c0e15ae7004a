use Rattle.pmt_parts.proofs.Prelude.{◌+◌, ◌-◌, length, coming}
use Rattle.pmt_parts.proofs.PieceLemmas.{IsAdded}
use Rattle.pmt_parts.proofs.pieces.Pieces.add_to.Given as goal

abbrev pub invariant-loop-left : goal.invariant-loop-left
invariant-loop-left g l = IsAdded (coming g.R.Read.remaining l.fn.self) l.most l.left l.fn.text.items l.text.items (coming g.R.Read.remaining l.self)

abbrev pub decreases-loop-left : goal.decreases-loop-left
decreases-loop-left g l = l.start + 67108865 - length l.text.items
