use Rattle.std.proofs.Common.{take}
use Rattle.std.specs.List.{filter_map}
use Rattle.indexmap.specs.IndexMap.{get}
use Rattle.pmt_causes.specs.contracts.dropping.DroppedKeyPartialEq.TheImpl as dropped_eq
use Rattle.pmt_causes.specs.Groups.{AreSoFar}
use Rattle.pmt_causes.specs.Dropped.{dropped_item}
use Rattle.pmt_causes.proofs.dropping.dropped_groups.Given as goal

abbrev pub invariant-loop-entry : goal.invariant-loop-entry
invariant-loop-entry l = AreSoFar (filter_map (dropped_item l.trace l.labels) (take l.entry-index l.dropped)) l.groups.items (get (dropped_eq.ghosts).eq l.places)
