use Rattle.std.proofs.Common.{◌≡◌, inl, inr, ◌∙◌, sym, refl, subst, arith}
use Rattle.std.proofs.lemmas.Bool.{cases_lt}
use Rattle.pmt_tables.specs.Slots.{IsSpanned}
use Rattle.pmt_sweep.specs.Judged.{IsLineOrdered}
use Rattle.pmt_sweep.specs.Known.{IsLineOf}
use Rattle.pmt_sweep.proofs.LineLemmas.{bare-above}
use Rattle.pmt_sweep.proofs.OrderLemmas.{bare-ordered, ordered-by_lines, ordered-none}
use Rattle.pmt_sweep.proofs.order.is_ordered.Goals as goal

pub returns-then-latest-eq0-clause-tells : goal.returns-then-latest-eq0-clause-tells
returns-then-latest-eq0-clause-tells c = λ T n known found.
    let k = c.args.known.now in
    let A = c.args.first in
    let B = c.args.second in
    let spanned : IsSpanned T.format B c.new-after.result = subst (λ f. IsSpanned f B c.new-after.result) (c.format-format.ensures ∙ known.format) c.new-after.ensures in
    let before : IsSpanned T.format A c.new-before.result = subst (λ f. IsSpanned f A c.new-before.result) (c.format-format.ensures ∙ known.format) c.new-before.ensures in
    (λ told. ordered-none T n 0 k.links A B known.trace known.entries c.latest_of-latest.result (c.latest_of-latest.ensures T n A B known before spanned) c.if-latest-eq0.true, λ passes. refl)

pub loop-line-preserved : goal.loop-line-preserved
loop-line-preserved c = λ T n known found.
    let A = c.args.first in
    let B = c.args.second in
    let line = c.loop-line.line in
    let so_far = c.loop-line.invariant T n known found in
    let spanned : IsSpanned T.format B c.new-after.result = subst (λ f. IsSpanned f B c.new-after.result) (c.format-format.ensures ∙ known.format) c.new-after.ensures in
    let before : IsSpanned T.format A c.new-before.result = subst (λ f. IsSpanned f A c.new-before.result) (c.format-format.ensures ∙ known.format) c.new-before.ensures in
    let is : IsLineOf T n B c.new-after.result line c.args.known.now = record { known = known; spanned = spanned; first = c.loop-line.auto.line; last = omega (arith, c.loop-line-test.true) } in
    let law = c.is_placed_ordered.ensures.tells T n A B is before (c.latest_of-latest.ensures T n A B known before spanned) so_far.0 in (
      c.is_placed_ordered.ensures.kept T n B is so_far.0,
      λ k less. elim (cases_lt k line) [
        | inl lower ↦ so_far.1 k lower
        | inr last ↦ let same : line ≡ k = omega (arith, last, less) in subst (IsLineOrdered T n c.args.known.now.links A B) same (law.0 c.if-not-is_placed_ordered.false)
      ],
    )

pub returns-then-not-is_placed_ordered-clause-tells : goal.returns-then-not-is_placed_ordered-clause-tells
returns-then-not-is_placed_ordered-clause-tells c = λ T n known found.
    let k = c.args.known.now in
    let A = c.args.first in
    let B = c.args.second in
    let line = c.loop-line.line in
    let so_far = c.loop-line.invariant T n known found in
    let spanned : IsSpanned T.format B c.new-after.result = subst (λ f. IsSpanned f B c.new-after.result) (c.format-format.ensures ∙ known.format) c.new-after.ensures in
    let before : IsSpanned T.format A c.new-before.result = subst (λ f. IsSpanned f A c.new-before.result) (c.format-format.ensures ∙ known.format) c.new-before.ensures in
    let is : IsLineOf T n B c.new-after.result line k = record { known = known; spanned = spanned; first = c.loop-line.auto.line; last = omega (arith, c.loop-line-test.true) } in
    let law = c.is_placed_ordered.ensures.tells T n A B is before (c.latest_of-latest.ensures T n A B known before spanned) so_far.0 in
    (λ told. absurd cc, λ passes. sym c.if-not-is_placed_ordered.true ∙ law.1 ((ordered-by_lines T n k.links A B known.trace known.entries).1 passes line))

pub returns-then-not-is_placed_ordered-clause-kept : goal.returns-then-not-is_placed_ordered-clause-kept
returns-then-not-is_placed_ordered-clause-kept c = λ T n known found.
    let B = c.args.second in
    let spanned : IsSpanned T.format B c.new-after.result = subst (λ f. IsSpanned f B c.new-after.result) (c.format-format.ensures ∙ known.format) c.new-after.ensures in
    c.is_placed_ordered.ensures.kept T n B (record { known = known; spanned = spanned; first = c.loop-line.auto.line; last = omega (arith, c.loop-line-test.true) }) (c.loop-line.invariant T n known found).0

pub returns-clause-tells : goal.returns-clause-tells
returns-clause-tells c = λ T n known found.
    let k = c.args.known.now in
    let A = c.args.first in
    let B = c.args.second in
    let line = c.loop-line.line in
    let spanned : IsSpanned T.format B c.new-after.result = subst (λ f. IsSpanned f B c.new-after.result) (c.format-format.ensures ∙ known.format) c.new-after.ensures in (
      λ told. (ordered-by_lines T n k.links A B known.trace known.entries).0 (λ l. elim (cases_lt l line) [
        | inl less ↦ (c.loop-line.invariant T n known found).1 l less
        | inr past ↦ bare-ordered T n l k.links A B (bare-above T n l B c.new-after.result spanned (omega (arith, past, c.loop-line-test.false)))
      ]),
      λ passes. refl,
    )

pub returns-clause-kept : goal.returns-clause-kept
returns-clause-kept c = λ T n known found. (c.loop-line.invariant T n known found).0
