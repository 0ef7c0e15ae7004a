use Rattle.std.proofs.Common.{ℕ, ◌<◌, get_or}
use Rattle.pmt_recorder.specs.Strips.{HasLength}
use Rattle.pmt_recorder.proofs.seal.have_lengths.Given as goal

abbrev pub invariant-loop-thread : goal.invariant-loop-thread
invariant-loop-thread g l = (t : ℕ) → t < l.thread → HasLength l.tapes (get_or l.places t 0) (get_or l.lengths t 0)
