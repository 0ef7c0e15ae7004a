use Rattle.std.proofs.Common.{◌≡◌, ◌≤◌, length, take}
use Rattle.pmt_tables.specs.Flags.{marked_from}
use Rattle.pmt_tables.proofs.flags.marked_count.Given as goal

abbrev pub invariant-loop-is_marked : goal.invariant-loop-is_marked
invariant-loop-is_marked l = (l.count ≡ length (marked_from 0 (take l.is_marked-index l.marked))) × (l.count ≤ l.is_marked-index)
