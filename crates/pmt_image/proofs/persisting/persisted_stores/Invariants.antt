use Rattle.pmt_image.proofs.Prelude.{history, persisted_by, AreFound, AllInside}
use Rattle.pmt_image.proofs.persisting.persisted_stores.Given as goal

abbrev pub invariant-loop-index : goal.invariant-loop-index
invariant-loop-index l = record {
  found : AreFound (persisted_by l.crash) (history l.trace l.index) l.seen l.stores.items;
  inside : AllInside l.pool (history l.trace l.index);
}
