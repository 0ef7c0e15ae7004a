use Rattle.std.proofs.Common.{◌≡◌, ℕ, ◌+◌, length, ap, ◌∙◌, arith, take, get_or}
use Rattle.std.proofs.Math.Facts.{Fits-le, Fits-of_lt}
use Rattle.pmt_lines.specs.Jobs.{LineWork}
use Rattle.pmt_workers.specs.Answering.{steps_of}
use Rattle.pmt_workers.proofs.CutLemmas.{steps_of-more, steps_of-parts, better, no_better}
use Rattle.pmt_workers.proofs.cut.fair_cut.Goals as goal
use Rattle.pmt_workers.proofs.cut.fair_cut.Goals.{then-gap-least, else-gap-least}

pub overflow_sub-total : goal.overflow_sub-total
overflow_sub-total c =
    let d : LineWork = c.index-jobs-i.result in
    let same : length c.steps.result.now ≡ length (get_or c.args.jobs.now c.loop-i.i d).steps = ap length c.steps.ensures.value ∙ ap (λ (j : LineWork). length j.steps) c.index-jobs-i.is in
    omega (arith, steps_of-more c.args.jobs.now c.loop-i.i d c.loop-i-test.true, steps_of-parts c.args.jobs.now (c.loop-i.i + 1), c.loop-i.invariant.so_far, c.steps_in-total.ensures.total)

pub overflow_add-front : goal.overflow_add-front
overflow_add-front c = Fits-le (overflow_sub-total c) (Fits-of_lt c.steps_in-total.ensures.few)

pub loop-i-preserved : goal.loop-i-preserved
loop-i-preserved c =
    let d : LineWork = c.index-jobs-i.result in
    let i : ℕ = c.loop-i.i in
    let next : ℕ = c.loop-i.front + length c.steps.result.now in
    let same : length c.steps.result.now ≡ length (get_or c.args.jobs.now i d).steps = ap length c.steps.ensures.value ∙ ap (λ (j : LineWork). length j.steps) c.index-jobs-i.is in
    let so_far : next ≡ steps_of (take (i + 1) c.args.jobs.now) = omega (arith, steps_of-more c.args.jobs.now i d c.loop-i-test.true, c.loop-i.invariant.so_far) in
    elim c.if-gap-least.branch [
      | then-gap-least w ↦ rw (w.best-is, w.least-is) (better c.args.jobs.now i c.loop-i.front c.loop-i.best c.loop-i.least c.steps_in-total.result c.gap_between-gap.result c.loop-i.invariant next so_far c.steps_in-total.ensures.total c.gap_between-gap.ensures w.if-gap-least.true)
      | else-gap-least w ↦ rw (w.best-is, w.least-is) (no_better c.args.jobs.now i c.loop-i.front c.loop-i.best c.loop-i.least c.steps_in-total.result c.gap_between-gap.result c.loop-i.invariant next so_far c.steps_in-total.ensures.total c.gap_between-gap.ensures w.if-gap-least.false)
    ]
