use Rattle.pmt_fates.proofs.Prelude.{map, subst, arith, elements, take_all, event_of, map-length, AreMarks}
use Rattle.pmt_fates.proofs.MarkLemmas.{marks-more, number-at}
use Rattle.pmt_fates.proofs.marking.dropped_marks.Goals as goal

pub loop-entry-preserved : goal.loop-entry-preserved
loop-entry-preserved c =
    let list = c.args.dropped.now in
    let i = c.loop-entry.entry-index in
    marks-more c.args.count (map event_of list) i _ c.loop-entry.marks.items c.mark.new.marks.items (omega (arith, map-length event_of list, c.loop-entry-test.true)) (number-at list i _ c.loop-entry-test.true)
    c.mark.ensures c.loop-entry.invariant

pub returns : goal.returns
returns c =
    let list = c.args.dropped.now in
    subst (λ xs. AreMarks c.args.count xs c.loop-entry.marks.items) (take_all c.loop-entry.entry-index (map event_of list) (omega (arith, map-length event_of list))) c.loop-entry.invariant

pub loop-entry-init : goal.loop-entry-init
loop-entry-init c = grind (arith, elements)
