use Rattle.std.proofs.Common.{◌≡◌, ◌+◌, vec_len}
use Rattle.std.specs.Prelude.{vec_capacity}
use Rattle.pmt_recorder.specs.Strips.{empty_tapes}
use Rattle.pmt_recorder.proofs.session.cut_tapes.Given as goal

abbrev pub invariant-loop-thread : goal.invariant-loop-thread
invariant-loop-thread g l =
    (l.tapes.items ≡ empty_tapes l.thread) × (l.share.parts + l.thread ≡ l.initial.share.parts) × (l.share.amount ≡ 0)
    × (vec_len l.tapes ≡ l.thread) × (vec_capacity l.tapes ≡ l.n)
