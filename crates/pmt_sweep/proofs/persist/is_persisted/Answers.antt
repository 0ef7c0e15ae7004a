use Rattle.std.proofs.Common.{◌≡◌, inl, inr, ◌∙◌, sym, refl, subst, arith}
use Rattle.std.proofs.lemmas.Grind.{elements}
use Rattle.std.proofs.lemmas.Bool.{cases_lt}
use Rattle.pmt_tables.specs.Slots.{IsSpanned}
use Rattle.pmt_sweep.specs.Judged.{IsLineSafe}
use Rattle.pmt_sweep.specs.Known.{IsLineOf}
use Rattle.pmt_sweep.proofs.LineLemmas.{bare-above, bare-safe}
use Rattle.pmt_sweep.proofs.OrderLemmas.{persist-by_lines}
use Rattle.pmt_sweep.proofs.persist.is_persisted.Goals as goal

pub loop-line-preserved : goal.loop-line-preserved
loop-line-preserved c = λ T n known k less.
    let A = c.args.range in
    let line = c.loop-line.line in
    let spanned : IsSpanned T.format A c.new-lines.result = subst (λ f. IsSpanned f A c.new-lines.result) (c.format.ensures ∙ known.format) c.new-lines.ensures in
    let is : IsLineOf T n A c.new-lines.result line c.args.known.now = record { known = known; spanned = spanned; first = c.loop-line.auto.line; last = omega (arith, c.loop-line-test.true) } in
    let law = c.is_placed_persisted.ensures T n A is in
    elim (cases_lt k line) [
      | inl lower ↦ c.loop-line.invariant T n known k lower
      | inr last ↦ let same : line ≡ k = omega (arith, last, less) in subst (IsLineSafe T n A) same (law.0 c.if-not-is_placed_persisted.false)
    ]

pub returns-then-not-is_placed_persisted : goal.returns-then-not-is_placed_persisted
returns-then-not-is_placed_persisted c = λ T n known.
    let A = c.args.range in
    let line = c.loop-line.line in
    let spanned : IsSpanned T.format A c.new-lines.result = subst (λ f. IsSpanned f A c.new-lines.result) (c.format.ensures ∙ known.format) c.new-lines.ensures in
    let is : IsLineOf T n A c.new-lines.result line c.args.known.now = record { known = known; spanned = spanned; first = c.loop-line.auto.line; last = omega (arith, c.loop-line-test.true) } in
    let law = c.is_placed_persisted.ensures T n A is in
    (λ told. absurd cc, λ passes. sym c.if-not-is_placed_persisted.true ∙ law.1 ((persist-by_lines T n A known.trace).1 passes line))

pub returns : goal.returns
returns c = λ T n known.
    let A = c.args.range in
    let line = c.loop-line.line in
    let spanned : IsSpanned T.format A c.new-lines.result = subst (λ f. IsSpanned f A c.new-lines.result) (c.format.ensures ∙ known.format) c.new-lines.ensures in (
      λ told. (persist-by_lines T n A known.trace).0 (λ l. elim (cases_lt l line) [
        | inl less ↦ c.loop-line.invariant T n known l less
        | inr past ↦ bare-safe T n l A (bare-above T n l A c.new-lines.result spanned (omega (arith, past, c.loop-line-test.false)))
      ]),
      λ passes. refl,
    )

pub loop-line-init : goal.loop-line-init
loop-line-init c = grind (arith, elements)
