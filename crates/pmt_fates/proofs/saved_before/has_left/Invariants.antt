use Rattle.pmt_fates.proofs.Prelude.{◌≡◌, ℕ, ◌<◌, false, slice_get, Some, Fate, Left, is_same}
use Rattle.pmt_fates.proofs.saved_before.has_left.Given as goal

abbrev pub invariant-loop-index : goal.invariant-loop-index
invariant-loop-index l = (k : ℕ) (f : Fate) → k < l.index → slice_get l.fates k ≡ Some f → is_same Left f ≡ false
