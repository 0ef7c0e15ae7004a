use Rattle.std.proofs.Common.{◌≡◌, take}
use Rattle.pmt_tables.specs.Flags.{marked_from}
use Rattle.pmt_tables.proofs.flags.marked_numbers.Given as goal

abbrev pub invariant-loop-i : goal.invariant-loop-i
invariant-loop-i l = l.numbers.items ≡ marked_from 0 (take l.i l.marked)
