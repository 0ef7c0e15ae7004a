use Rattle.pmt_explain.specs.Dropping.{IsBehind, IsPast}
use Rattle.pmt_explain.proofs.DroppingLemmas.{AreDroppedTo}
use Rattle.pmt_explain.proofs.dropping.dropped_before.Given as goal

abbrev pub invariant-loop-index : goal.invariant-loop-index
invariant-loop-index l = record {
  behind : IsBehind l.safe.trace.now l.index l.behind;
  past : IsPast l.kept l.index l.place;
  listed : AreDroppedTo l.safe.trace.now l.index l.list.items;
}
