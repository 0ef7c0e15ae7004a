use Rattle.std.proofs.Common.{◌≡◌, drop, true}
use Rattle.pmt_recorder.specs.Strips.{has_thread, entries_of}
use Rattle.pmt_recorder.proofs.seal.place_of.Given as goal

abbrev pub invariant-loop-place : goal.invariant-loop-place
invariant-loop-place g l =
    (has_thread l.thread (drop l.place l.tapes) ≡ true) × (entries_of l.thread (drop l.place l.tapes) ≡ entries_of l.thread l.tapes)
