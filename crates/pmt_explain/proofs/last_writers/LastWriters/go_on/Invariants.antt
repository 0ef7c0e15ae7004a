use Rattle.std.proofs.Common.{◌≡◌, ◌≤◌}
use Rattle.pmt_explain.specs.Writers.{AreWritten}
use Rattle.pmt_explain.proofs.last_writers.LastWriters.go_on.Given as goal

abbrev pub invariant-loop-index : goal.invariant-loop-index
invariant-loop-index l = record {
  written : AreWritten l.trace l.index l.self.low l.self.high l.self.blocks;
  from : l.initial.self.place ≤ l.index;
  upto : l.index ≤ l.place;
  low : l.self.low ≡ l.initial.self.low;
  high : l.self.high ≡ l.initial.self.high;
}
