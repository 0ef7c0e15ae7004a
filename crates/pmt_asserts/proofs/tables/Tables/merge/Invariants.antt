use Rattle.std.proofs.Common.{◌≡◌}
use Rattle.std.specs.Prelude.{nat_eq}
use Rattle.indexmap.specs.IndexMap.{get}
use Rattle.pmt_asserts.specs.Tables.{IsPlacing}
use Rattle.pmt_asserts.proofs.tables.Tables.merge.Given as goal

abbrev pub invariant-loop-found : goal.invariant-loop-found
invariant-loop-found l = (l.lines.items ≡ l.yielded) × IsPlacing l.lines.items (get nat_eq l.places)
