use Rattle.std.proofs.Common.{length}
use Rattle.pmt_model.proofs.Pieces.{IsCutSoFar}
use Rattle.pmt_model.proofs.split.pieces.Given as goal

abbrev pub invariant-loop-rest : goal.invariant-loop-rest
invariant-loop-rest l = IsCutSoFar l.fn.addr l.fn.bytes l.addr l.rest l.ops.items

abbrev pub decreases-loop-rest : goal.decreases-loop-rest
decreases-loop-rest l = length l.rest
