use Rattle.std.specs.Prelude.{◌≡◌, ℕ, ◌<◌, Some, false, length, slice_get}
use Rattle.pmt_hints.specs.Claiming.{left_unsafe}
use Rattle.pmt_hints.proofs.stored_after.is_any_left.Given as goal

abbrev pub invariant-loop-index : goal.invariant-loop-index
invariant-loop-index l = (k w s : ℕ) → k < l.index → slice_get l.waited k ≡ Some w → slice_get l.places k ≡ Some s → left_unsafe w s (length l.places) ≡ false
