use Rattle.std.proofs.Common.{◌≡◌, length}
use Rattle.pmt_trim.proofs.KeptLemmas.{IsKeptBack}
use Rattle.pmt_trim.proofs.kept.kept_back.Given as goal

abbrev pub invariant-loop-i : goal.invariant-loop-i
invariant-loop-i l = record {
  size : length l.waiting ≡ 256;
  passed : IsKeptBack l.found.job l.i l.raises l.waiting l.kept.items;
}
