use Rattle.pmt_image.proofs.Prelude.{◌≡◌, ℕ, take, reverse, line_by, lines_of_spans}
use Rattle.indexmap.specs.IndexMap.{keys}
use Rattle.pmt_explain.specs.Crashes.{count_in}
use Rattle.pmt_image.proofs.open.open_lines.Given as goal

abbrev pub invariant-loop-index : goal.invariant-loop-index
invariant-loop-index l = record {
  lines : keys l.lines ≡ lines_of_spans (reverse (take l.index l.stores));
  each : (k : ℕ) → count_in l.lines k ≡ line_by (reverse (take l.index l.stores)) k;
}
