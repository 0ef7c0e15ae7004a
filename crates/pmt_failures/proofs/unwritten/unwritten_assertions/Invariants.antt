use Rattle.std.proofs.Common.{◌≡◌}
use Rattle.pmt_failures.specs.Showing.{AreNoted, unwritten_among}
use Rattle.pmt_failures.proofs.unwritten.unwritten_assertions.Given as goal

abbrev pub invariant-loop-index : goal.invariant-loop-index
invariant-loop-index l = record {
  found : l.found.items ≡ unwritten_among l.trace l.index;
  noted : AreNoted l.trace l.index l.noted;
}
