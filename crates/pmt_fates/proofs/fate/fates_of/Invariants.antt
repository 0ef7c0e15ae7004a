use Rattle.pmt_fates.proofs.Prelude.{map, event_of}
use Rattle.pmt_fates.proofs.FateLemmas.{AreSoFar}
use Rattle.pmt_fates.proofs.fate.fates_of.Given as goal

abbrev pub invariant-loop-index : goal.invariant-loop-index
invariant-loop-index l = AreSoFar l.trace l.told (map event_of l.dropped) l.safe l.waited l.index l.fates.items
