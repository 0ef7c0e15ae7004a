use Rattle.pmt_fates.proofs.Prelude.{map, take, event_of, AreMarks}
use Rattle.pmt_fates.proofs.marking.dropped_marks.Given as goal

abbrev pub invariant-loop-entry : goal.invariant-loop-entry
invariant-loop-entry l = AreMarks l.count (take l.entry-index (map event_of l.dropped)) l.marks.items
