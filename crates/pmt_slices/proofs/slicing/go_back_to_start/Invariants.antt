use Rattle.pmt_slices.proofs.Prelude.{◌≡◌, length, Span, IsGoneBack}
use Rattle.pmt_slices.proofs.slicing.go_back_to_start.Given as goal

abbrev pub invariant-loop-index : goal.invariant-loop-index
invariant-loop-index l = record {
  size : length l.chosen ≡ length l.initial.chosen;
  back : (A : Span) → IsGoneBack l.trace A l.number l.number l.initial.chosen l.initial.scan l.initial.unwritten l.initial.chosen →
      IsGoneBack l.trace A l.index l.number l.initial.chosen l.scan l.unwritten l.chosen;
}
