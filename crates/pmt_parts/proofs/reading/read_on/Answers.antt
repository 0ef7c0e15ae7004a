use Rattle.pmt_parts.proofs.Prelude.{◌≡◌, ◌-◌, ◌++◌, Err, length, arith, rules, ap, subst, ◌∙◌, on_ok_weaker, Consumes, IsTrace, ended, header, coming}
use Rattle.pmt_parts.proofs.RunLemmas.{body-of, next-few}
use Rattle.pmt_parts.proofs.StopLemmas.{refused-behind, refused-none, refused-was}
use Rattle.pmt_parts.proofs.reading.read_on.Goals as goal

pub returns-clause-read : goal.returns-clause-read
returns-clause-read g c =
    let R = g.R.Read.remaining in
    let B = c.in_ok-block.block in
    let x = c.in_ok-add_to.ensures in
    let f = c.format.result in
    let head : c.push_header.new.text.items ≡ ended (header f) = c.in_ok-push_header.ensures ∙ ap (λ text. text ++ ended (header f)) c.new-text.ensures.items in
    let text : c.add_to.new.text.items ≡ ended (header f) ++ x.0 = x.1 ∙ ap (λ bytes. bytes ++ x.0) head in
    let room : c.saturating_sub-room.result ≡ c.args.most - length c.args.part.now.trace.events = omega (arith, c.saturating_sub-room.ensures, c.len.ensures.value) in
    on_ok_weaker c.extend.result
    (λ more.
    let piece = body-of c.add_to.new.text.items x.0 f B text c.in_ok-block.ensures.spelled (c.format.ensures.value ∙ more.format) in
    record {
      block = B;
      text = subst (Consumes (coming R c.args.pieces.now) (coming R c.add_to.new.self)) piece x.2.next;
      few = next-few c.args.most c.args.part.now c.extend.new.part B x.0 piece (omega (arith, x.2.lines, room)) more;
      is_trace = subst IsTrace c.block.view_is c.block.invariant;
      extends = more;
    }) c.extend.ensures.extends

pub returns-clause-refused : goal.returns-clause-refused
returns-clause-refused g c = refused-none _ _ c.extend.ensures.refused

pub returns-in_err-push_header-clause-refused : goal.returns-in_err-push_header-clause-refused
returns-in_err-push_header-clause-refused g c = refused-none _ c.from_residual.result (search (rules, c.from_residual.ensures))

pub returns-in_err-add_to-clause-refused : goal.returns-in_err-add_to-clause-refused
returns-in_err-add_to-clause-refused g c = refused-none _ c.from_residual-in_err-add_to.result (search (rules, c.from_residual-in_err-add_to.ensures))

pub returns-in_err-block-clause-refused : goal.returns-in_err-block-clause-refused
returns-in_err-block-clause-refused g c =
    let x = c.in_ok-add_to.ensures in
    let e = c.in_err-block.field-0.0 in
    let f = c.args.part.now.trace.format in
    let head : c.push_header.new.text.items ≡ ended (header f) = c.in_ok-push_header.ensures ∙ ap (λ text. text ++ ended (header c.format.result)) c.new-text.ensures.items ∙ ap (λ g. ended (header g)) c.format.ensures.value in
    let text : c.add_to.new.text.items ≡ ended (header f) ++ x.0 = x.1 ∙ ap (λ bytes. bytes ++ x.0) head in
    let told : c.from_residual-in_err-block.result ≡ Err e = search (rules, c.from_residual-in_err-block.ensures) in
    refused-was _ _ _ e told (refused-behind (ended (header f)) _ x.0 _ _ _ _ text x.2) c.in_err-block.ensures.refused
