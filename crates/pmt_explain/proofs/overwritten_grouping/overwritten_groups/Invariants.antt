use Rattle.std.proofs.Common.{take, nat_eq}
use Rattle.indexmap.specs.IndexMap.{get}
use Rattle.pmt_explain.proofs.OverwrittenGroupLemmas.{IsPairsGathered}
use Rattle.pmt_explain.proofs.overwritten_grouping.overwritten_groups.Given as goal

abbrev pub invariant-loop-pair : goal.invariant-loop-pair
invariant-loop-pair l = IsPairsGathered l.trace (take l.pair-index l.pairs) l.groups.items (get nat_eq l.places)
