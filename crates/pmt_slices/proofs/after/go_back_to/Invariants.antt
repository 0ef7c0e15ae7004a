use Rattle.pmt_slices.proofs.Prelude.{◌≤◌, suc, Span, IsScan}
use Rattle.pmt_slices.proofs.after.go_back_to.Given as goal

abbrev pub invariant-loop-index : goal.invariant-loop-index
invariant-loop-index l = record {
  low : l.number ≤ l.index;
  back : (A : Span) → IsScan l.trace A l.place (suc l.place) l.initial.scan → IsScan l.trace A l.index (suc l.place) l.scan;
}
