use Rattle.std.proofs.Common.{refl, arith}
use Rattle.pmt_model.specs.Values.{line_of}
use Rattle.pmt_asserts.specs.Tables.{PersistedBy, EachIn}
use Rattle.pmt_asserts.proofs.JudgeLemmas.{persist-by}
use Rattle.pmt_asserts.proofs.LineLemmas.{below-none, below-more}
use Rattle.pmt_asserts.proofs.judge.persists.Goals as goal

pub loop-line-init : goal.loop-line-init
loop-line-init c = λ T k. below-none c.lines_of-first.result.0 (λ line. EachIn T line c.args.range (PersistedBy T c.args.number c.args.number))

pub loop-line-preserved : goal.loop-line-preserved
loop-line-preserved c = λ T k.
    below-more c.lines_of-first.result.0 c.loop-line.line (λ line. EachIn T line c.args.range (PersistedBy T c.args.number c.args.number)) (c.loop-line.invariant T k)
    ((c.is_line_persisted.ensures T k (omega arith)).0 c.if-not-is_line_persisted.false)

pub returns-then-not-is_line_persisted : goal.returns-then-not-is_line_persisted
returns-then-not-is_line_persisted c = λ T k.
    let judged = persist-by T c.args.number c.args.range in
    (λ t. absurd cc, λ passes. absurd (let told = (c.is_line_persisted.ensures T k (omega arith)).1 (λ b j own. judged.1 passes b j) in cc))

pub returns : goal.returns
returns c = λ T k.
    let judged = persist-by T c.args.number c.args.range in
    let lines = c.lines_of-first.ensures.lines in
    (λ t. judged.0 (λ b j. let at = lines T b k.formatted j in c.loop-line.invariant T k (line_of T.format b) at.0 (omega (arith, at.1, c.loop-line-test.false)) b j refl), λ passes. refl)
