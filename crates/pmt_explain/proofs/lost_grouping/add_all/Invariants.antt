use Rattle.std.proofs.Common.{take}
use Rattle.pmt_explain.specs.Grouping.{place_in}
use Rattle.pmt_explain.proofs.LostGroupLemmas.{IsLostGathered}
use Rattle.pmt_explain.proofs.lost_grouping.add_all.Given as goal

abbrev pub invariant-loop-store : goal.invariant-loop-store
invariant-loop-store l = IsLostGathered l.trace (take l.store-index l.stores) l.groups.items (place_in l.places)
