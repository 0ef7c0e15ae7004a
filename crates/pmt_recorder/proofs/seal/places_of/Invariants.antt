use Rattle.std.proofs.Common.{◌≡◌, ℕ, ◌<◌, length, get_or}
use Rattle.pmt_recorder.specs.Strips.{IsPlaceOf}
use Rattle.pmt_recorder.proofs.seal.places_of.Given as goal

abbrev pub invariant-loop-thread : goal.invariant-loop-thread
invariant-loop-thread g l = record {
  size : length l.places ≡ 256;
  found : (t : ℕ) → t < l.thread → IsPlaceOf t l.tapes (get_or l.places t 0);
}
