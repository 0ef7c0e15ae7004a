use Rattle.pmt_parts.proofs.Prelude.{arith, sym, ap, subst, elements, Consumes, prepend_known, coming, held}
use Rattle.pmt_parts.proofs.PieceLemmas.{consumes-held, added-more}
use Rattle.pmt_parts.proofs.pieces.Pieces.add_to.Goals as goal

pub loop-left-preserved : goal.loop-left-preserved
loop-left-preserved g c =
    let R = g.R.Read.remaining in
    let l = c.loop-left in
    let x = c.in_ok-left.ensures.taken in
    let takes : Consumes (coming R c.fill.new.self) (coming R c.take_lines.new.self) x.0 =
    subst (λ known. Consumes (coming R c.fill.new.self) (prepend_known (held c.take_lines.new.self) known) x.0) (sym (ap R c.take_lines.ensures.input))
    (consumes-held (held c.fill.new.self) x.0 (held c.take_lines.new.self) (R c.fill.new.self.input) x.3) in
    added-more (coming R c.args.self.now) (coming R l.self) (coming R c.fill.new.self) (coming R c.take_lines.new.self) c.args.most l.left c.in_ok-left.field-0 c.args.text.now.items l.text.items c.take_lines.new.piece.items
    (held c.fill.new.self) x.0 l.invariant c.in_ok-fill.ensures.kept takes x.1 x.2

pub overflow_sub-len : goal.overflow_sub-len
overflow_sub-len g c = grind (arith, elements)

pub loop-left-smaller : goal.loop-left-smaller
loop-left-smaller g c = grind (arith, elements)

pub returns-else-len-start-le-MOST_BYTES : goal.returns-else-len-start-le-MOST_BYTES
returns-else-len-start-le-MOST_BYTES g c = grind (arith, elements)
