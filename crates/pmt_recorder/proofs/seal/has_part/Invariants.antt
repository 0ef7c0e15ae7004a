use Rattle.std.proofs.Common.{◌≡◌, drop, true}
use Rattle.pmt_recorder.specs.Strips.{has_thread, entries_of}
use Rattle.pmt_recorder.proofs.seal.has_part.Given as goal

abbrev pub invariant-loop-tape : goal.invariant-loop-tape
invariant-loop-tape g l =
    (has_thread l.thread (drop l.tape-index l.tapes) ≡ true) × (entries_of l.thread (drop l.tape-index l.tapes) ≡ entries_of l.thread l.tapes)
