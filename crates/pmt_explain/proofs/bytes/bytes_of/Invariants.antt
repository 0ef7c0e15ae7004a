use Rattle.std.proofs.Common.{◌≡◌, ℕ, ◌+◌, length}
use Rattle.std.specs.Prelude.{slice_get, slice_index, Some}
use Rattle.pmt_explain.specs.declared.bytes.CrashByte.{CrashByte}
use Rattle.pmt_explain.specs.Crashes.{IsReadOf}
use Rattle.pmt_explain.proofs.bytes.bytes_of.Given as goal

abbrev pub invariant-loop-index : goal.invariant-loop-index
invariant-loop-index l = record {
  size : length l.bytes.items ≡ l.index;
  each : (k : ℕ) (x : CrashByte) → slice_get l.bytes.items k ≡ Some x → IsReadOf l.trace (slice_index l.stores k) (l.first + k) x;
}
