use Rattle.pmt_fates.proofs.Prelude.{take, AreMarks}
use Rattle.pmt_fates.proofs.marking.marks.Given as goal

abbrev pub invariant-loop-number : goal.invariant-loop-number
invariant-loop-number l = AreMarks l.count (take l.number-index l.list) l.marks.items
