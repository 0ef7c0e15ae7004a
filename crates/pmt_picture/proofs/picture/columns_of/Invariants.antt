use Rattle.std.proofs.Common.{take}
use Rattle.pmt_picture.specs.Columns.{AreColumns}
use Rattle.pmt_picture.proofs.picture.columns_of.Given as goal

abbrev pub invariant-loop-number : goal.invariant-loop-number
invariant-loop-number l = AreColumns l.known.trace.now (take l.number-index l.numbers) l.columns.items
