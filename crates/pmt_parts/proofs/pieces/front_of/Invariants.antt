use Rattle.pmt_parts.proofs.Prelude.{◌≡◌, ◌<◌, take, line_count}
use Rattle.pmt_parts.proofs.pieces.front_of.Given as goal

abbrev pub invariant-loop-index : goal.invariant-loop-index
invariant-loop-index l = (line_count (take l.index l.bytes) ≡ l.lines) × (l.lines < l.most)
