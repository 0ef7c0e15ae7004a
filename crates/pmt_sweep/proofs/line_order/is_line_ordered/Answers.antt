use Rattle.std.proofs.Common.{◌<◌, arith}
use Rattle.std.proofs.lemmas.Bool.{eq-eqb, leb-true}
use Rattle.pmt_sweep.proofs.LineLemmas.{oldest-least, oldest-none, oldest-reached}
use Rattle.pmt_sweep.proofs.OrderLemmas.{bare-ordered, ordered-before, ordered-from, ordered-others}
use Rattle.pmt_sweep.proofs.line_order.is_line_ordered.Goals as goal

pub returns-then-oldest-eq0-clause-tells : goal.returns-then-oldest-eq0-clause-tells
returns-then-oldest-eq0-clause-tells c = λ T n A B it first is found.
    let l = c.args.at.now.line in
    let told = c.oldest_in-oldest.ensures.oldest T n B it found in
    let bare = oldest-none T n l B told.bytes it.line.known.trace told.are c.oldest_in-oldest.result told.told c.if-oldest-eq0.true in
    (λ yes. bare-ordered T n l c.args.known.now.links A B bare, λ ordered. eq-eqb c.oldest_in-oldest.result 0 c.if-oldest-eq0.true)

pub returns-then-of_others-oldest-clause-tells : goal.returns-then-of_others-oldest-clause-tells
returns-then-of_others-oldest-clause-tells c = λ T n A B it first is found.
    let l = c.args.at.now.line in
    let links = c.args.known.now.links in
    let trace = it.line.known.trace in
    let linked = it.line.known.entries in
    let oldest = c.oldest_in-oldest.result in
    let told = c.oldest_in-oldest.ensures.oldest T n B it found in
    let before = c.is_line_before.ensures T n A it.line first in (
      λ yes. ordered-from T n l links A B trace linked c.args.latest.now c.of_others.result oldest is (c.of_others.ensures is.told is.latest) (oldest-least T n l B told.bytes trace told.are oldest told.told) c.if-of_others-oldest.true (before.0 yes),
      λ ordered. let some : 0 < c.oldest_in-oldest.result = omega (arith, c.if-oldest-eq0.false) in before.1 (ordered-before T n l links A B trace linked oldest (oldest-reached T n l B told.bytes trace told.are oldest told.told some) some ordered),
    )

pub returns-else-of_others-oldest-clause-tells : goal.returns-else-of_others-oldest-clause-tells
returns-else-of_others-oldest-clause-tells c = λ T n A B it first is found.
    let l = c.args.at.now.line in
    let trace = it.line.known.trace in
    let oldest = c.oldest_in-oldest.result in
    let told = c.oldest_in-oldest.ensures.oldest T n B it found in (
      λ yes. absurd (omega (arith, leb-true c.of_others.result oldest yes, c.if-of_others-oldest.false)),
      λ ordered. let some : 0 < c.oldest_in-oldest.result = omega (arith, c.if-oldest-eq0.false) in absurd (omega (
        arith,
        c.if-of_others-oldest.false,
        ordered-others T n l c.args.known.now.links A B trace it.line.known.entries c.args.latest.now c.of_others.result oldest is (c.of_others.ensures is.told is.latest) (oldest-reached T n l B told.bytes trace told.are oldest told.told some) some ordered,
      )),
    )
