use Rattle.pmt_image.proofs.Prelude.{◌≡◌, ℕ, suc, length, slice_get, Some, Act, IsAct, count_at, StoreSpan, count_in, IsSpan}
use Rattle.pmt_image.proofs.spans.store_spans.Given as goal

abbrev pub invariant-loop-index : goal.invariant-loop-index
invariant-loop-index l = record {
  size : length l.spans.items ≡ l.index;
  stored : (k : ℕ) → count_in l.stored k ≡ count_at l.trace k l.index;
  each : (i : ℕ) (x : StoreSpan) → slice_get l.spans.items i ≡ Some x → (a : Act) → IsAct l.trace (suc i) a → IsSpan l.trace (suc i) a x;
}
