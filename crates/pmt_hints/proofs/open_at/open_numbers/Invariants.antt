use Rattle.std.proofs.Common.{drop}
use Rattle.std.specs.Prelude.{reverse}
use Rattle.pmt_hints.proofs.OpenAtLemmas.{StoresIn}
use Rattle.pmt_hints.proofs.SiftingLemmas.{AreSifted}
use Rattle.pmt_hints.proofs.StoredAfterLemmas.{FencesIn}
use Rattle.pmt_hints.proofs.open_at.open_numbers.Given as goal

abbrev pub invariant-loop-index : goal.invariant-loop-index
invariant-loop-index l = record {
  fences : FencesIn l.trace (drop l.index l.numbers) l.fences;
  stores : StoresIn l.trace (drop l.index l.numbers) l.stores;
  sifted : AreSifted l.trace l.labels (drop l.index l.numbers) (reverse l.open.items) l.closed;
}
