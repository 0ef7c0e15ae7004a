use Rattle.std.proofs.Common.{◌≡◌, ◌+◌, ◌∙◌, Some, sym, subst, arith}
use Rattle.pmt_asserts.specs.Tables.{earlier_of}
use Rattle.pmt_asserts.proofs.EarliestLemmas.{EarliestOfBelow, earliest-end, earliest-more, earliest-skip, taken-by, skipped-by}
use Rattle.pmt_asserts.proofs.judge.earliest.Goals as goal
use Rattle.pmt_asserts.proofs.judge.earliest.Goals.{then-ne, else-ne}

pub loop-line-init : goal.loop-line-init
loop-line-init c = λ T k b j below taken. absurd (omega (arith, below, (c.lines_of-first.ensures.lines T b k.formatted j).0))

pub loop-line-preserved : goal.loop-line-preserved
loop-line-preserved c = λ T k.
    let line = c.loop-line.line in
    let old = c.loop-line.earliest in
    elim c.if-ne.branch [
      | then-ne w ↦
          let is : c.if-ne.earliest ≡ earlier_of old line w.line_oldest-oldest.result = w.earliest-is ∙ w.earlier-earliest.ensures in
          subst (EarliestOfBelow T c.args.number c.args.skipped c.args.range (line + 1)) (sym is)
          (earliest-more T c.args.number line c.args.skipped c.args.range old w.line_oldest-oldest.result (taken-by c.args.skipped line (sym c.ne.ensures ∙ w.if-ne.true)) (c.loop-line.invariant T k) (w.line_oldest-oldest.ensures T k))
      | else-ne w ↦
          let skipped : c.args.skipped ≡ Some line = skipped-by c.args.skipped line (sym c.ne.ensures ∙ w.if-ne.false) in
          let before : EarliestOfBelow T c.args.number (Some line) c.args.range line old = subst (λ s. EarliestOfBelow T c.args.number s c.args.range line old) skipped (c.loop-line.invariant T k) in
          subst (EarliestOfBelow T c.args.number c.args.skipped c.args.range (line + 1)) (sym w.earliest-is)
          (subst (λ s. EarliestOfBelow T c.args.number s c.args.range (line + 1) old) (sym skipped) (earliest-skip T c.args.number line c.args.range old before))
    ]

pub returns : goal.returns
returns c = λ T k.
    earliest-end T c.args.number c.loop-line.line c.args.skipped c.args.range c.loop-line.earliest (λ b j. let at = c.lines_of-first.ensures.lines T b k.formatted j in omega (arith, at.1, c.loop-line-test.false))
    (c.loop-line.invariant T k)
