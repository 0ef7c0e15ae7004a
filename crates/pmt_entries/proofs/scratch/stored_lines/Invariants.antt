use Rattle.std.proofs.Common.{take}
use Rattle.pmt_entries.specs.Sites.{AreAsked}
use Rattle.pmt_entries.proofs.scratch.stored_lines.Given as goal

abbrev pub invariant-loop-number : goal.invariant-loop-number
invariant-loop-number l = AreAsked l.trace (take l.number-index l.stores) l.lines
