use Rattle.std.proofs.Common.{◌≡◌, ◌+◌, ◌≤◌, length, ◌∙◌, ap, arith, get_or}
use Rattle.pmt_lines.specs.Jobs.{LineWork}
use Rattle.pmt_workers.proofs.CutLemmas.{steps_of-more, steps-few}
use Rattle.pmt_workers.proofs.cut.steps_in.Goals as goal

pub loop-i-preserved : goal.loop-i-preserved
loop-i-preserved c =
    let d : LineWork = c.index-jobs-i.result in
    let same : length c.steps.result.now ≡ length (get_or c.args.jobs.now c.loop-i.i d).steps = ap length c.steps.ensures.value ∙ ap (λ (j : LineWork). length j.steps) c.index-jobs-i.is in
    let few : length d.steps + 0 ≤ 1000000 = steps-few 0 d.steps c.steps.ensures.rising (omega arith) in
    let held : length c.steps.result.now ≡ length d.steps = ap length c.steps.ensures.value in
    (omega (arith, steps_of-more c.args.jobs.now c.loop-i.i d c.loop-i-test.true), omega arith)
