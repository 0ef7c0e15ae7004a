use Rattle.std.proofs.Common.{◌≡◌, ℕ, suc, ◌≤◌, length}
use Rattle.std.specs.Prelude.{slice_get, Some}
use Rattle.pmt_explain.specs.Following.{IsAhead, TellsSafe}
use Rattle.pmt_explain.proofs.saving.note_places.Given as goal

abbrev pub invariant-loop-index : goal.invariant-loop-index
invariant-loop-index l = record {
  size : length l.places.items ≡ length l.trace.events;
  ahead : IsAhead l.trace l.index l.ahead;
  each : (n p : ℕ) → l.index ≤ n → slice_get l.places.items n ≡ Some p → TellsSafe l.trace (suc n) p;
}
