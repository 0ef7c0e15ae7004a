use Rattle.std.proofs.Common.{◌≡◌, length}
use Rattle.pmt_explain.specs.Crashes.{AreLastKept}
use Rattle.pmt_explain.proofs.bytes.last_persisted.Given as goal

abbrev pub invariant-loop-index : goal.invariant-loop-index
invariant-loop-index l = record {
  size : length l.last.items ≡ l.fn.range.len;
  last : AreLastKept l.trace l.crash l.first l.index l.last.items;
}
