use Rattle.std.proofs.Common.{◌≤◌}
use Rattle.pmt_slices.proofs.StoreSliceLemmas.{NoFence}
use Rattle.pmt_slices.proofs.store_slicing.fence_after.Given as goal

abbrev pub invariant-loop-index : goal.invariant-loop-index
invariant-loop-index l = record {
  low : l.number ≤ l.index;
  none : NoFence l.trace l.thread l.number l.index;
}
