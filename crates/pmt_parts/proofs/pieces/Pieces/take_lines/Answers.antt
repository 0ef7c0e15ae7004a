use Rattle.std.proofs.Common.{◌++◌, take, slice_range, ap, ◌∙◌}
use Rattle.pmt_parts.proofs.PieceLemmas.{takes-front}
use Rattle.pmt_parts.proofs.pieces.Pieces.take_lines.Goals as goal

pub returns-clause-taken : goal.returns-clause-taken
returns-clause-taken g c =
    let p = c.args.self.now in
    let len = c.front_of-found.result.len in
    let split = takes-front p.bytes p.start p.end len p.ordered c.front_of-found.ensures.within in
    (take len (slice_range p.bytes p.start p.end), c.front_of-found.ensures.front, c.in_ok-extend_from_slice.ensures.items ∙ ap (λ ys. c.args.piece.now.items ++ ys) split.0, split.1)
