use Rattle.std.proofs.Common.{◌≡◌, ℕ, ◌+◌, ◌≤◌, nat_le, Some, true, ap, arith}
use Rattle.std.proofs.lemmas.Bool.{le-leb}
use Rattle.std.proofs.lemmas.List.{length-take, length-drop}
use Rattle.pmt_text.proofs.PieceLemmas.{slice_range-skip, slice_range-taken}
use Rattle.pmt_text.proofs.piece.Piece.skip.Goals as goal

pub returns-clause-left : goal.returns-clause-left
returns-clause-left c =
    let p = c.args.self.now in
    slice_range-skip p.bytes p.start p.end c.args.count (omega (arith, length-take {A = ℕ}, length-drop {A = ℕ}))

pub returns-clause-last : goal.returns-clause-last
returns-clause-last c =
    let p = c.args.self.now in
    let inside : p.start + c.args.count ≤ p.end = omega (arith, length-take {A = ℕ}, length-drop {A = ℕ}) in
    let here : nat_le c.args.count (p.start + c.args.count) ≡ true = le-leb c.args.count (p.start + c.args.count) (omega arith) in
    rw here (ap (λ bytes. Some bytes) (slice_range-taken p.bytes p.start p.end c.args.count inside))
