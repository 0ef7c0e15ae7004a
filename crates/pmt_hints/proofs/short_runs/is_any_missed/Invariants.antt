use Rattle.std.specs.Prelude.{◌≡◌, ℕ, ◌<◌, Some, false, length, slice_get}
use Rattle.pmt_hints.specs.GoingOn.{is_lost_or_late}
use Rattle.pmt_hints.proofs.short_runs.is_any_missed.Given as goal

abbrev pub invariant-loop-index : goal.invariant-loop-index
invariant-loop-index l = (k w s : ℕ) → k < l.index → slice_get l.waited k ≡ Some w → slice_get l.places k ≡ Some s → is_lost_or_late w s (length l.places) ≡ false
