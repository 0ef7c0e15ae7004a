use Rattle.std.proofs.Common.{refl, arith}
use Rattle.std.proofs.lemmas.Grind.{elements}
use Rattle.pmt_sweep.proofs.LineLemmas.{at-line, bare-unplaced}
use Rattle.pmt_sweep.proofs.OrderLemmas.{bare-ordered}
use Rattle.pmt_sweep.proofs.order.is_placed_ordered.Goals as goal

pub returns-in-Some-clause-tells : goal.returns-in-Some-clause-tells
returns-in-Some-clause-tells c = λ T n A B are spanned is found.
    c.is_line_ordered.ensures.tells T n A B (at-line T n B c.args.second.now _ c.args.known.now are (c.in-Some.ensures.found T n are.known) c.in-Some.ensures.small) spanned is found

pub returns-in-Some-clause-kept : goal.returns-in-Some-clause-kept
returns-in-Some-clause-kept c = λ T n B are found.
    c.is_line_ordered.ensures.kept T n B (at-line T n B c.args.second.now _ c.args.known.now are (c.in-Some.ensures.found T n are.known) c.in-Some.ensures.small) found

pub returns-in-None-clause-tells : goal.returns-in-None-clause-tells
returns-in-None-clause-tells c = λ T n A B are spanned is found.
    let k = c.args.known.now in
    (λ told. bare-ordered T n c.args.line k.links A B (bare-unplaced T n c.args.line B k are.known (c.in-None.ensures.found T n are.known)), λ ordered. refl)

pub is_line_ordered-requires : goal.is_line_ordered-requires
is_line_ordered-requires c = grind (arith, elements)
