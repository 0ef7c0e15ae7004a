use Rattle.std.proofs.Common.{◌≡◌, length, take}
use Rattle.pmt_tables.specs.Flags.{MarksThese}
use Rattle.pmt_trim.proofs.join.mark_all.Given as goal

abbrev pub invariant-loop-number : goal.invariant-loop-number
invariant-loop-number l = record {
  size : length l.marked ≡ length l.initial.marked;
  marks : MarksThese l.initial.marked (take l.number-index l.numbers) l.marked;
}
