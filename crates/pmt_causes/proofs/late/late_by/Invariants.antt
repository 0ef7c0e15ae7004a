use Rattle.std.proofs.Common.{◌≡◌, ℕ, suc, ◌<◌, length, get_or}
use Rattle.std.specs.Prelude.{slice_get, Some}
use Rattle.pmt_causes.specs.Late.{counted, IsWaited, is_fence_of, late_items}
use Rattle.pmt_causes.proofs.late.late_by.Given as goal

abbrev pub invariant-loop-index : goal.invariant-loop-index
invariant-loop-index l = record {
  size : length l.waited.items ≡ length l.trace.events;
  each : (k n : ℕ) → k < l.index → slice_get l.waited.items k ≡ Some n → IsWaited l.trace (suc k) n;
  items : l.items.items ≡ late_items l.trace l.labels l.waited.items l.index;
  threads : length l.passed ≡ 256;
  passed : (t d : ℕ) → t < 256 → get_or l.passed t d ≡ counted (is_fence_of l.trace t) l.index;
}
