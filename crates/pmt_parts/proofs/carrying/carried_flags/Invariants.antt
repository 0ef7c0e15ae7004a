use Rattle.pmt_parts.proofs.Prelude.{◌≡◌, length, IsLater, AreCarried}
use Rattle.pmt_parts.proofs.carrying.carried_flags.Given as goal

abbrev pub invariant-loop-index : goal.invariant-loop-index
invariant-loop-index l = record {
  size : length l.carried.items ≡ l.last;
  later : IsLater l.trace l.index l.last l.later;
  marks : AreCarried l.trace l.index l.last l.carried.items;
}
