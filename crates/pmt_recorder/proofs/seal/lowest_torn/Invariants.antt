use Rattle.std.proofs.Common.{◌≡◌, ℕ, ◌<◌}
use Rattle.pmt_model.specs.Selections.{part}
use Rattle.pmt_recorder.specs.Strips.{entries_of}
use Rattle.pmt_recorder.proofs.seal.lowest_torn.Given as goal

abbrev pub invariant-loop-thread : goal.invariant-loop-thread
invariant-loop-thread g l = (t : ℕ) → t < l.thread → part t l.events ≡ entries_of t l.tapes
