use Rattle.std.proofs.Common.{◌≡◌, length}
use Rattle.pmt_explain.specs.LastStores.{AreLastStores}
use Rattle.pmt_explain.proofs.last_stores.last_stores.Given as goal

abbrev pub invariant-loop-index : goal.invariant-loop-index
invariant-loop-index l = record {
  size : length l.last.items ≡ l.fn.range.len;
  last : AreLastStores l.trace l.first l.index l.last.items;
}
