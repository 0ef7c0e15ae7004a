use Rattle.std.proofs.Common.{◌≡◌, ℕ, ◌<◌, true}
use Rattle.pmt_recorder.specs.Strips.{has_thread}
use Rattle.pmt_recorder.proofs.seal.is_one_of_each.Given as goal

abbrev pub invariant-loop-thread : goal.invariant-loop-thread
invariant-loop-thread g l = (t : ℕ) → t < l.thread → has_thread t l.tapes ≡ true
