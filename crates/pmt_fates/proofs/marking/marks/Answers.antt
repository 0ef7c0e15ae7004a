use Rattle.pmt_fates.proofs.Prelude.{refl, subst, arith, elements, take_all, AreMarks}
use Rattle.pmt_fates.proofs.MarkLemmas.{marks-more}
use Rattle.pmt_fates.proofs.marking.marks.Goals as goal

pub loop-number-preserved : goal.loop-number-preserved
loop-number-preserved c =
    marks-more c.args.count c.args.list.now c.loop-number.number-index _ c.loop-number.marks.items c.mark.new.marks.items c.loop-number-test.true refl c.mark.ensures c.loop-number.invariant

pub returns : goal.returns
returns c = subst (λ xs. AreMarks c.args.count xs c.loop-number.marks.items) (take_all c.loop-number.number-index c.args.list.now (omega arith)) c.loop-number.invariant

pub loop-number-init : goal.loop-number-init
loop-number-init c = grind (arith, elements)
