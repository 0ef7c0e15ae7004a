use Rattle.std.proofs.Common.{◌≡◌, ℕ, suc, ◌<◌, length}
use Rattle.std.specs.Prelude.{slice_get, Some}
use Rattle.pmt_explain.specs.Following.{TellsSafe}
use Rattle.pmt_explain_run.proofs.places.places_of.Given as goal

abbrev pub invariant-loop-index : goal.invariant-loop-index
invariant-loop-index l = record {
  size : length l.places.items ≡ length l.trace.events;
  each : (n p : ℕ) → n < l.index → slice_get l.places.items n ≡ Some p → TellsSafe l.trace (suc n) p;
}
