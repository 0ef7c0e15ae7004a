use Rattle.pmt_parts.proofs.Prelude.{rules, coming}
use Rattle.pmt_parts.proofs.RunLemmas.{kept-to, next-cut}
use Rattle.pmt_parts.proofs.StopLemmas.{refused-as, refused-past}
use Rattle.pmt_parts.proofs.run.part_after.Goals as goal

pub returns-in-Ok-read_on-clause-part : goal.returns-in-Ok-read_on-clause-part
returns-in-Ok-read_on-clause-part g c old parts so_far =
    let R = g.R.Read.remaining in
    let begun = c.in-Ok.ensures in
    next-cut c.args.ignored.now c.args.most c.args.overlap old (coming R c.args.pieces.now) (coming R c.read_on.new.pieces) parts c.args.part.now c.in-Ok.next c.read_on.new.part so_far begun.part begun.format begun.place begun.end c.in-Ok-read_on.ensures.read

pub returns-in-Ok-read_on-clause-few : goal.returns-in-Ok-read_on-clause-few
returns-in-Ok-read_on-clause-few g c =
    let more = c.in-Ok-read_on.ensures.read in
    kept-to c.args.most c.args.part.now c.in-Ok.next c.read_on.new.part c.in-Ok.ensures.end more.extends.same_before more.few

pub returns-in-Err-read_on-clause-stops : goal.returns-in-Err-read_on-clause-stops
returns-in-Err-read_on-clause-stops g c =
    let begun = c.in-Ok.ensures in
    (refused-as _ _ _ (refused-past c.args.part.now c.in-Ok.next _ begun.format begun.end.1) c.in-Err-read_on.ensures.refused, search (rules, c.begin.ensures))
