use Rattle.pmt_parts.proofs.Prelude.{◌≡◌, ◌+◌, ◌≤◌, [], ◌++◌, Err, inl, arith, rules, sym, ap, subst, ◌∙◌, Consumes, spelling, coming}
use Rattle.pmt_parts.proofs.RunLemmas.{first-cut, first-few}
use Rattle.pmt_parts.proofs.StopLemmas.{refused-behind, refused-none, refused-was}
use Rattle.pmt_parts.proofs.reading.first_part.Goals as goal

pub returns-clause-cut : goal.returns-clause-cut
returns-clause-cut g c ranges overlap =
    let R = g.R.Read.remaining in
    let B = c.in_ok-block.block in
    let x = c.in_ok-add_to.ensures in
    let piece : x.0 ≡ spelling B = sym (x.1 ∙ ap (λ text. text ++ x.0) c.new-text.ensures.items) ∙ c.in_ok-block.ensures.spelled in
    let text : Consumes (coming R c.args.pieces.now) (coming R c.add_to.new.self) (spelling B) = subst (Consumes (coming R c.args.pieces.now) (coming R c.add_to.new.self)) piece x.2.next in
    let start = c.new-part.ensures.start in
    first-cut ranges overlap (coming R c.args.pieces.now) (coming R c.add_to.new.self) c.new-part.result c.extend.new.part B text c.format.ensures.is_trace start.0 start.1 start.2
    (λ T same. c.new-part.ensures.part T ranges (same ∙ sym c.format.ensures.value)) c.in_ok-extend.ensures.extends

pub returns-clause-few : goal.returns-clause-few
returns-clause-few g c =
    let B = c.in_ok-block.block in
    let x = c.in_ok-add_to.ensures in
    let piece : x.0 ≡ spelling B = sym (x.1 ∙ ap (λ text. text ++ x.0) c.new-text.ensures.items) ∙ c.in_ok-block.ensures.spelled in
    let bound : c.saturating_add.result ≤ c.args.most + 1 = omega (arith, c.saturating_add.ensures) in
    inl (first-few c.args.most c.saturating_add.result B x.0 c.extend.new.part piece x.2.lines bound (c.in_ok-extend.ensures.extends.grown ∙ ap (λ es. es ++ B.events) c.new-part.ensures.none))

pub returns-in_err-add_to-clause-refused : goal.returns-in_err-add_to-clause-refused
returns-in_err-add_to-clause-refused g c = refused-none _ c.from_residual.result (search (rules, c.from_residual.ensures))

pub returns-in_err-block-clause-refused : goal.returns-in_err-block-clause-refused
returns-in_err-block-clause-refused g c =
    let x = c.in_ok-add_to.ensures in
    let e = c.in_err-block.field-0.0 in
    let text : c.add_to.new.text.items ≡ x.0 = x.1 ∙ ap (λ text. text ++ x.0) c.new-text.ensures.items in
    let told : c.from_residual-in_err-block.result ≡ Err e = search (rules, c.from_residual-in_err-block.ensures) in
    refused-was _ _ _ e told (refused-behind [] _ x.0 _ _ 0 _ text x.2) c.in_err-block.ensures.refused

pub returns-in_err-extend-clause-refused : goal.returns-in_err-extend-clause-refused
returns-in_err-extend-clause-refused g c =
    let e = c.in_err-extend.field-0.0 in
    let told : c.from_residual-in_err-extend.result ≡ Err e = search (rules, c.from_residual-in_err-extend.ensures) in
    refused-was _ _ _ e told (λ r none. absurd none) c.in_err-extend.ensures.refused
